-- One line more in its row.
use Rattle.std.proofs.Common.{◌≡◌, ℕ, ◌+◌, ◌*◌, ◌/◌, ◌%◌, ◌<◌, ◌≤◌, Bool, true, false, ◌&&◌, eqb, ◌≢◌, List, [], ◌∷◌, ◌++◌, length, get_or, take, set, sym, refl, ap, ◌∙◌, subst, ap₂, ⊎_elim, mul-le-mul_right, arith, below_more}
use Rattle.std.proofs.lemmas.Nat.{div-add-mod', div_below, mod_below}
use Rattle.std.proofs.lemmas.List.{get_or_append_left, get_or_push, get_or-set_other, get_or-set_same, get_or-take, length_push, length-take-le}
use Rattle.std.proofs.lemmas.Bool.{and_from, and_parts, both_ways, cases_Bool, cases_eq, eq-eqb, eqb-true, ne_eqb}
use Rattle.std.proofs.lemmas.Bool.Decides.{when_true, when_false}
use Rattle.lines.specs.declared.rows.Line.{Line}
use Rattle.lines.specs.Lines.{empty_line}
use Rattle.stores.specs.Chunks.{Free, free_count, is_out}
use Rattle.stores.specs.Stores.{Store, Bounded, taken}
use Rattle.stores.proofs.Modelling.{free_taken}
use Rattle.keeping.specs.Laid.{Laid, LineLaid, Opened, Ready, Standing, line_put}
use Rattle.keeping.specs.Stays.{chunks_for, rows_for}
use Rattle.keeping.proofs.Returning.{back_taken, back_written}
use Rattle.keeping.proofs.Rounding.{row_more}

-- one more at the end, where the list has it and where it had others
by_push : (cs : List ℕ) (c : ℕ) (P : ℕ → ℕ → Type 0) → P (length cs) c → ((i : ℕ) → i < length cs → P i (get_or cs i 0)) → (i : ℕ) → i < length (cs ++ c ∷ []) → P i (get_or (cs ++ c ∷ []) i 0)
by_push cs c P last others i h = ⊎_elim
    (λ (e : i ≡ length cs). let g = get_or_push cs c 0 i (sym e) in rw (g, e) last)
    (λ (ne : i ≢ length cs). let n = length_push cs c in let k : i < length cs = omega arith in rw (get_or_append_left cs (c ∷ []) 0 i k) (others i k))
    (cases_eq i (length cs))

-- the chunk that is taken for a line is its chunk
pub took_ready :
    (rows k : ℕ) (s : Store) (cs : List ℕ) (t : Store) (ds : List ℕ) (c : ℕ) → 0 < rows → k % rows ≡ 0 → length cs ≡ chunks_for rows k →
    Free s.out c → t ≡ taken s c → ds ≡ cs ++ c ∷ [] → Opened rows k s cs t ds × Ready rows k t ds
took_ready rows k s cs t ds c pos first many free store list =
    let b = eq-eqb (k % rows) 0 first in
    let e : length cs ≡ k / rows = omega arith in (
      rw b (record { chunk = c; free = free; store = store; list = list }),
      (
        (let n = length_push cs c in rw (list, n) (omega arith)),
        rw (store, list, get_or_push cs c 0 (k / rows) e) (get_or-set_same s.out c true false free.0),
        mod_below k rows pos,
      ),
    )

module _ (rows : ℕ) (s : Store) (ls : List Line) where
  -- a free chunk is none of those in the list
  new_chunk : (n : ℕ) (t : Store) (cs : List ℕ) (c : ℕ) → Laid rows s ls n t cs → Free t.out c → (i : ℕ) → i < length cs → get_or cs i 0 ≢ c
  new_chunk n t cs c laid free i h e = both_ways (is_out t.out c) free.1 (ap (is_out t.out) (sym e) ∙ laid.out i h)

  -- a chunk is taken
  laid_taken : (n : ℕ) (t : Store) (cs : List ℕ) (c : ℕ) → 0 < rows → Bounded rows t → Laid rows s ls n t cs → Free t.out c → Laid rows s ls n (taken t c) (cs ++ c ∷ [])
  laid_taken n t cs c pos bounded laid free =
      let new = new_chunk n t cs c laid free in
      let long = length_push cs c in
      record {
        room = let m = row_more (length cs) rows in let r = laid.room in rw (long, m) (omega arith);
        out = by_push cs c (λ i d. is_out (set t.out c true) d ≡ true)
            (get_or-set_same t.out c true false free.0)
            (λ i h. get_or-set_other t.out c (get_or cs i 0) true false (new i h) ∙ laid.out i h);
        apart = λ i j h k. by_push cs c (λ i d. d ≡ get_or (cs ++ c ∷ []) j 0 → i ≡ j)
            (by_push cs c (λ j e. c ≡ e → length cs ≡ j) (λ e. refl) (λ j k e. absurd (new j k (sym e))) j k)
            (λ i h. by_push cs c (λ j e. get_or cs i 0 ≡ e → i ≡ j) (λ e. absurd (new i h e)) (λ j k e. laid.apart i j h k e) j k)
            i h;
        lines = λ i h.
            let k = div_below i rows (length cs) pos (let r = laid.room in omega arith) in
            let g = get_or_append_left cs (c ∷ []) 0 (i / rows) k in
            let f = ne_eqb (get_or cs (i / rows) 0) c (new (i / rows) k) in
            rw (g, f) (laid.lines i h);
        free = let f = free_taken t.out c free in let r = laid.free in rw long (omega arith);
        back = back_taken rows t cs c bounded free.1 ∙ laid.back;
      }

  -- a line is written into the next row of the last chunk
  laid_written : (n : ℕ) (t : Store) (cs : List ℕ) → 0 < rows → Laid rows s ls n t cs → length cs ≡ n / rows + 1 → Laid rows s ls (n + 1) (line_put rows n (get_or ls n empty_line) t cs) cs
  laid_written n t cs pos laid many =
      let c = get_or cs (n / rows) 0 in
      let at : ℕ → Bool = λ i. eqb (get_or cs (i / rows) 0) c && eqb (i % rows) (n % rows) in
      record {
        room = let m = row_more (n / rows) rows in let e = div-add-mod' n rows in let h = mod_below n rows pos in rw many (rw m (omega arith));
        out = laid.out;
        apart = laid.apart;
        lines = below_more _ n
            (λ i h. ⊎_elim
            (λ (e : at i ≡ true).
            let p = and_parts _ _ e in
            let k = div_below i rows (length cs) pos (let r = laid.room in omega arith) in
            let q = laid.apart (i / rows) (n / rows) k (omega arith) (eqb-true _ _ p.0) in
            let same = sym (div-add-mod' i rows) ∙ ap₂ (λ x y. x * rows + y) q (eqb-true _ _ p.1) ∙ div-add-mod' n rows in
            absurd (omega arith))
            (λ (e : at i ≡ false). rw e (laid.lines i h))
            (cases_Bool (at i)))
            (let e = and_from _ _ (eq-eqb c c refl) (eq-eqb (n % rows) (n % rows) refl) in rw e);
        free = laid.free;
        back = back_written t cs (n / rows) (n % rows) (get_or ls n empty_line) many ∙ laid.back;
      }

  moved : (n : ℕ) (t : Store) (cs : List ℕ) (u : Store) (ds : List ℕ) → u ≡ t → ds ≡ cs → Laid rows s ls n t cs → Laid rows s ls n u ds
  moved n t cs u ds e f laid = subst (λ x. Laid rows s ls n x ds) (sym e) (subst (λ x. Laid rows s ls n t x) (sym f) laid)

  -- a chunk is taken for the next line, where its row is the first of one
  opened : (n : ℕ) (t : Store) (cs : List ℕ) (u : Store) (ds : List ℕ) → 0 < rows → Bounded rows t → Laid rows s ls n t cs → length cs ≡ chunks_for rows n → Opened rows n t cs u ds → Laid rows s ls n u ds × (length ds ≡ n / rows + 1)
  opened n t cs u ds pos bounded laid many did = ⊎_elim
      (λ (e : n % rows ≡ 0).
      let took = when_true _ _ (eq-eqb (n % rows) 0 e) did in (
        moved n _ _ u ds took.store took.list (laid_taken n t cs took.chunk pos bounded laid took.free),
        ap length took.list ∙ length_push cs took.chunk ∙ omega arith,
      ))
      (λ (ne : n % rows ≢ 0).
      let none = when_false _ _ (ne_eqb (n % rows) 0 ne) did in
      (moved n t cs u ds none.0 none.1 laid, ap length none.1 ∙ many ∙ omega arith))
      (cases_eq (n % rows) 0)

  -- the next line is laid
  pub laid_more :
      (n : ℕ) (t : Store) (cs : List ℕ) (u : Store) (ds : List ℕ) (l : Line) → 0 < rows → Bounded rows t → Laid rows s ls n t cs → length cs ≡ chunks_for rows n →
      l ≡ get_or ls n empty_line → LineLaid rows n l t cs u ds → Laid rows s ls (n + 1) u ds × (length ds ≡ n / rows + 1)
  laid_more n t cs u ds l pos bounded laid many e did =
      let o = opened n t cs did.between ds pos bounded laid many did.opened in
      let put = did.store ∙ ap (λ x. line_put rows n x did.between ds) e in
      (moved (n + 1) _ ds u ds put refl (laid_written n did.between ds pos o.0 o.1), o.1)

  -- all lines that are laid found room in chunks that were free
  pub laid_all : (n : ℕ) (t : Store) (cs : List ℕ) → Laid rows s ls n t cs → n ≡ rows_for rows (free_count s.out) n
  laid_all n t cs laid =
      let r = laid.room in
      let f = laid.free in
      let few : length cs ≤ free_count s.out = omega arith in
      let m : length cs * rows ≤ free_count s.out * rows = mul-le-mul_right _ few in
      omega arith

  -- the lines that are laid stand in their rows
  pub laid_standing : (n : ℕ) (t : Store) (cs : List ℕ) → 0 < rows → n ≤ length ls → Laid rows s ls n t cs → Standing rows t cs (take n ls)
  laid_standing n t cs pos h laid i lt =
      let e = length-take-le n ls h in
      let k : i < n = omega arith in
      let r = laid.room in
      let inside = div_below i rows (length cs) pos (omega arith) in
      (inside, laid.out (i / rows) inside, laid.lines i k ∙ sym (get_or-take n ls i empty_line k))
