-- What a chunk cleared or a row replaced in memory is to the store.
use Rattle.std.proofs.Common.{◌≡◌, ℕ, ◌+◌, ◌*◌, ◌<◌, ◌≤◌, true, ◌≢◌, List, length, get_or, drop, replicate, sym, refl, ap, ◌∙◌, arith}
use lib.ListN.{length-replicate, get_or-replicate}
use Rattle.std.proofs.lemmas.List.Edits.{length-paste, length-between, get_or-between}
use Rattle.std.proofs.lemmas.List.{ext_get_or}
use Rattle.std.specs.List.{between}
use Rattle.lines.specs.declared.rows.Line.{Line}
use Rattle.lines.specs.Lines.{empty_line}
use Rattle.stores.specs.declared.marks.Marks.{Marks}
use Rattle.stores.specs.Chunks.{is_out}
use Rattle.stores.specs.Choices.{marks_taken}
use Rattle.stores.specs.Stores.{taken, written}
use Rattle.stores.specs.Views.{chunks_in, out_of, view}
use Rattle.stores.proofs.Meaning.{drop_past, out_taken}
use Rattle.stores.proofs.Viewing.{view_taken, view_written}
use Rattle.lent_store.specs.Memory.{chunk_count, beyond_chunks, line_at, blanks, chunk_cleared, row_put, row_replaced}
use Rattle.lent_store.proofs.Pasting.{paste_here, paste_beside, paste_at}
use Rattle.lent_store.proofs.Rooms.{chunk_below, chunk_beside, row_beside, row_fits, chunk_fits}

length-blanks : {A : Type 0} (blank : A) (n : ℕ) → n ≡ length (blanks blank n)
unfolding blanks
length-blanks blank n = sym (length-replicate n blank)

get_or-blanks : {A : Type 0} (blank : A) (n i : ℕ) → i < n → get_or (blanks blank n) i blank ≡ blank
unfolding blanks
get_or-blanks blank n i h = get_or-replicate n i blank blank h

-- memory in chunks of so many rows of so many cells
module _ {A : Type 0} (rows cells : ℕ) where
  length-cleared : (blank : A) (mem : List A) (c : ℕ) → c * (rows * cells) + rows * cells ≤ length mem → length (chunk_cleared rows cells blank mem c) ≡ length mem
  length-cleared blank mem c h = length-paste mem (c * (rows * cells)) (blanks blank (rows * cells)) (rows * cells) h (omega (arith, length-blanks blank (rows * cells)))

  length-replaced : (row : List A) (mem : List A) (i : ℕ) → length row ≡ cells → i * cells + cells ≤ length mem → length (row_put cells mem i row) ≡ length mem
  length-replaced row mem i e h = length-paste mem (i * cells) row cells h (omega arith)

  -- a row of a chunk that was cleared
  cleared_here : (blank : A) (mem : List A) (c r : ℕ) → c * (rows * cells) + rows * cells ≤ length mem → r < rows → between ((c * rows + r) * cells) ((c * rows + r) * cells + cells) (chunk_cleared rows cells blank mem c) ≡ replicate cells blank
  cleared_here blank mem c r h p =
      let at : ℕ = (c * rows + r) * cells in
      let after : List A = chunk_cleared rows cells blank mem c in
      let inside = chunk_below cells r rows p in
      let long : length (between at (at + cells) after) ≡ cells = length-between after at (at + cells) (omega (arith, length-cleared blank mem c h)) ∙ omega arith in
      ext_get_or blank (between at (at + cells) after) (replicate cells blank) (long ∙ sym (length-replicate cells blank))
      (λ k q.
      let lt : k < cells = omega arith in
      let i : ℕ = r * cells + k in
      let e : at + k ≡ c * (rows * cells) + i = omega arith in
      get_or-between after at (at + cells) k blank (omega arith)
      ∙ ap (λ b. get_or after b blank) e
      ∙ paste_at mem (blanks blank (rows * cells)) (c * (rows * cells)) (rows * cells) i blank h (length-blanks blank (rows * cells)) (omega arith)
      ∙ get_or-blanks blank (rows * cells) i (omega arith)
      ∙ sym (get_or-replicate cells k blank blank lt))

  -- a row of another chunk
  cleared_other : (blank : A) (mem : List A) (c d r : ℕ) → c * (rows * cells) + rows * cells ≤ length mem → d ≢ c → r < rows → between ((d * rows + r) * cells) ((d * rows + r) * cells + cells) (chunk_cleared rows cells blank mem c) ≡ between ((d * rows + r) * cells) ((d * rows + r) * cells + cells) mem
  cleared_other blank mem c d r h ne p =
      let at : ℕ = (d * rows + r) * cells in
      paste_beside mem (blanks blank (rows * cells)) (c * (rows * cells)) (rows * cells) at (at + cells) h (length-blanks blank (rows * cells)) (chunk_beside rows cells c d r ne p)

  pub shown_taken : (line_of : List A → Line) (blank : A) (m : Marks) (mem : List A) (c : ℕ) → line_of (replicate cells blank) ≡ empty_line → c * (rows * cells) + rows * cells ≤ length mem → view rows (out_of (chunk_count rows cells (chunk_cleared rows cells blank mem c)) (marks_taken m c)) (line_at cells line_of (chunk_cleared rows cells blank mem c)) ≡ taken (view rows (out_of (chunk_count rows cells mem) m) (line_at cells line_of mem)) c
  shown_taken line_of blank m mem c empty h =
      let after : ℕ → Line = line_at cells line_of (chunk_cleared rows cells blank mem c) in
      let n = chunk_count rows cells mem in
      ap (λ k. view rows (out_of (chunks_in (rows * cells) k) (marks_taken m c)) after) (length-cleared blank mem c h)
      ∙ ap (λ out. view rows out after) (out_taken n m c)
      ∙ view_taken rows (out_of n m) (line_at cells line_of mem) after c
      (λ r p. ap line_of (cleared_here blank mem c r h p) ∙ empty)
      (λ d r ne p. ap line_of (cleared_other blank mem c d r h ne p))

  pub shown_written : (line_of : List A → Line) (row : List A) (l : Line) (m : Marks) (mem : List A) (c r : ℕ) → length row ≡ cells → line_of row ≡ l → is_out (out_of (chunk_count rows cells mem) m) c ≡ true → r < rows → (c * rows + r) * cells + cells ≤ length mem → view rows (out_of (chunk_count rows cells (row_replaced rows cells mem c r row)) m) (line_at cells line_of (row_replaced rows cells mem c r row)) ≡ written (view rows (out_of (chunk_count rows cells mem) m) (line_at cells line_of mem)) c r l
  shown_written line_of row l m mem c r long back out p h =
      let i : ℕ = c * rows + r in
      let after : ℕ → Line = line_at cells line_of (row_put cells mem i row) in
      let n = chunk_count rows cells mem in
      ap (λ k. view rows (out_of (chunks_in (rows * cells) k) m) after) (length-replaced row mem i long h)
      ∙ view_written rows (out_of n m) (line_at cells line_of mem) after c r l out p
      (ap line_of (paste_here mem row (i * cells) cells h (sym long)) ∙ back)
      (λ j ne. ap line_of (paste_beside mem row (i * cells) cells (j * cells) (j * cells + cells) h (sym long) (row_beside cells i j ne)))

  -- memory beyond the chunks stays as it is
  pub beyond_cleared : (blank : A) (mem : List A) (c : ℕ) → c < chunk_count rows cells mem → beyond_chunks rows cells (chunk_cleared rows cells blank mem c) ≡ beyond_chunks rows cells mem
  beyond_cleared blank mem c h =
      let size : ℕ = rows * cells in
      let fits : c * size + size ≤ length mem = chunk_fits size (length mem) _ c refl h in
      ap (λ k. drop (chunks_in size k * size) (chunk_cleared rows cells blank mem c)) (length-cleared blank mem c fits)
      ∙ drop_past mem (blanks blank size) (c * size) size (chunk_count rows cells mem * size) fits (omega (arith, length-blanks blank size)) (chunk_below size c _ h)

  pub beyond_replaced : (row : List A) (mem : List A) (c r : ℕ) → length row ≡ cells → c < chunk_count rows cells mem → r < rows → beyond_chunks rows cells (row_replaced rows cells mem c r row) ≡ beyond_chunks rows cells mem
  beyond_replaced row mem c r long h p =
      let i : ℕ = c * rows + r in
      let size : ℕ = rows * cells in
      let fits : i * cells + cells ≤ length mem = row_fits rows cells (length mem) _ c r refl h p in
      let inside = chunk_below cells r rows p in
      ap (λ k. drop (chunks_in size k * size) (row_put cells mem i row)) (length-replaced row mem i long fits)
      ∙ drop_past mem row (i * cells) cells (chunk_count rows cells mem * size) fits (omega arith) (omega (arith, chunk_below size c _ h))
