-- Bytes and the one line that packs to them.
use Rattle.std.proofs.Common.{◌≡◌, ℕ, zero, suc, ◌+◌, ◌*◌, ◌/◌, ◌%◌, ◌^◌, ◌<◌, List, [], ◌∷◌, ◌++◌, map, drop, length, get_or, w64, Ok, Err, Result, sym, refl, ap, ◌∙◌, subst, add-zero, arith, rules}
use Rattle.std.proofs.lemmas.List.FromFn.{fill_by_all, length-map-range_with_len, get_or-map-range_with_len}
use Rattle.std.proofs.lemmas.List.{ext_get_or, get_or_append_left, get_or-append_right, get_or-drop, get_or-map, get_or-take, length-map, places}
use Rattle.std.specs.Int.{from_le_bytes, to_le_bytes}
use Rattle.std.specs.List.{flat_map}
use Rattle.std.specs.Option.{ok_or}
use Rattle.std.specs.Simd.{first_chunks}
use Rattle.std.specs.Prelude.{Option, Some, None, MatchOption}
use Rattle.lines.specs.declared.faults.LineFault.{LineFault}
use Rattle.lines.specs.declared.faults.LineFault.TheVariants.{NotALine}
use Rattle.lines.specs.declared.rows.Line.{Line}
use Rattle.lines.specs.Decoded.{record_of}
use Rattle.lines.specs.Entries.{Entry, word_of}
use Rattle.lines.specs.Lines.{entry_at, Holds, NoLine}
use Rattle.lines.specs.Packs.{cluster_bits, content_bits, cluster_part, packed_word, byte_of, packed_byte, packed, word_at}
use Rattle.lines.specs.Refusals.{Unpacked}
use Rattle.lines.proofs.Parts.{same_parts}
use Rattle.lines.proofs.Present.{word_lt}
use Rattle.lines.proofs.Recorded.{FilledTo, record_holds, records_apart}

pub length-packed : (l : Line) → length (packed l) ≡ 64
unfolding packed
length-packed l = length-map-range_with_len (packed_byte l) 0 64

packed_at : (l : Line) (k j : ℕ) → k < 8 → j < 8 → get_or (packed l) (8 * k + j) 0 ≡ byte_of (packed_word l k) j
unfolding packed
packed_at l k j p q =
    let e : (8 * k + j) / 8 ≡ k = omega arith in
    let f : (8 * k + j) % 8 ≡ j = omega arith in
    get_or-map-range_with_len (packed_byte l) 0 64 (8 * k + j) (8 * k + j) 0 (omega arith) (omega arith)
    ∙ ap (λ x. byte_of (packed_word l x) ((8 * k + j) % 8)) e ∙ ap (byte_of (packed_word l k)) f

packed_word_high : (l : Line) (k : ℕ) → packed_word l k / 2 ^ content_bits ≡ cluster_part l.cluster k
packed_word_high l k = omega (arith, word_lt (entry_at l k))

pub packed_word_low : (l : Line) (k : ℕ) → packed_word l k % 2 ^ content_bits ≡ word_of (entry_at l k)
packed_word_low l k = omega (arith, word_lt (entry_at l k))

packed_word_lt : (l : Line) (k : ℕ) → packed_word l k < 2 ^ 64
packed_word_lt l k = omega (arith, word_lt (entry_at l k))

joined_bytes : (w : ℕ) → w < 2 ^ 64 → byte_of w 0 + byte_of w 1 * 256 + byte_of w 2 * 65536 + byte_of w 3 * 16777216 + byte_of w 4 * 4294967296 + byte_of w 5 * 1099511627776 + byte_of w 6 * 281474976710656 + byte_of w 7 * 72057594037927936 ≡ w
joined_bytes w h = omega arith

-- the words of a packed line are read off its bytes
pub packed-word_at : (l : Line) (bs : List ℕ) → packed l ≡ bs → (k : ℕ) → k < 8 → word_at bs k ≡ packed_word l k
packed-word_at l bs e k p =
    let at : (j : ℕ) → j < 8 → get_or bs (8 * k + j) 0 ≡ byte_of (packed_word l k) j = λ j q. sym (ap (λ xs. get_or xs (8 * k + j) 0) e) ∙ packed_at l k j p q in
    let first : get_or bs (8 * k) 0 ≡ byte_of (packed_word l k) 0 = simp add-zero at (at 0 (omega arith)) in
    omega (arith, joined_bytes (packed_word l k) (packed_word_lt l k), first, at 1 (omega arith), at 2 (omega arith), at 3 (omega arith), at 4 (omega arith), at 5 (omega arith), at 6 (omega arith), at 7 (omega arith))

le_byte : (w j : ℕ) → j < 8 → get_or (to_le_bytes w64 w) j 0 ≡ byte_of w j
le_byte w j h = search (rules, places)

-- arrays of eight bytes, end to end
rows_at : (rs : List (List ℕ)) (k j : ℕ) → ((i : ℕ) → i < length rs → length (get_or rs i []) ≡ 8) → k < length rs → j < 8 → get_or (flat_map (λ x. x) rs) (8 * k + j) 0 ≡ get_or (get_or rs k []) j 0
rows_at [] k j long h p = absurd (omega arith)
rows_at (r ∷ rs) zero j long h p = ap (λ n. get_or (r ++ flat_map (λ x. x) rs) n 0) (omega arith) ∙ get_or_append_left r (flat_map (λ x. x) rs) 0 j (omega (arith, long 0 (omega arith)))
rows_at (r ∷ rs) (suc k) j long h p =
    get_or-append_right r (flat_map (λ x. x) rs) 8 (8 * suc k + j) 0 (long 0 (omega arith)) (omega arith)
    ∙ ap (λ n. get_or (flat_map (λ x. x) rs) n 0) (omega arith) ∙ rows_at rs k j (λ i l. long (suc i) (omega arith)) (omega arith) p

-- the bytes of a packed line's words, low byte first, are the packed line
pub rows_packed : (l : Line) (rs : List (List ℕ)) (bs : List ℕ) → length rs ≡ 8 → ((k : ℕ) → k < 8 → get_or rs k [] ≡ to_le_bytes w64 (packed_word l k)) → bs ≡ flat_map (λ x. x) rs → length bs ≡ 64 → bs ≡ packed l
unfolding packed
rows_packed l rs bs eight row e long =
    fill_by_all (packed_byte l) bs 64 0 long (λ b h.
    let p : b / 8 < 8 = omega arith in
    let q : b % 8 < 8 = omega arith in
    let s : b ≡ 8 * (b / 8) + b % 8 = omega arith in
    ap (λ xs. get_or xs b 0) e ∙ ap (λ n. get_or (flat_map (λ x. x) rs) n 0) s
    ∙ rows_at rs (b / 8) (b % 8) (λ i l. ap length (row i (omega arith))) (omega arith) q
    ∙ ap (λ r. get_or r (b % 8) 0) (row (b / 8) p) ∙ le_byte (packed_word l (b / 8)) (b % 8) q)

chunk_at : (m : ℕ) (bs : List ℕ) (k j : ℕ) → k < m → j < 8 → get_or (get_or (first_chunks 8 m bs) k []) j 0 ≡ get_or bs (8 * k + j) 0
chunk_at zero bs k j h i = absurd (omega arith)
chunk_at (suc m) bs zero j h i = get_or-take 8 bs j 0 i ∙ ap (λ n. get_or bs n 0) (omega arith)
chunk_at (suc m) bs (suc k) j h i =
    chunk_at m (drop 8 bs) k j (omega arith) i ∙ get_or-drop 8 bs (8 * k + j) 0 ∙ ap (λ n. get_or bs n 0) (omega arith)

chunk_reads : (cs bs : List ℕ) (k : ℕ) → ((j : ℕ) → j < 8 → get_or cs j 0 ≡ get_or bs (8 * k + j) 0) → from_le_bytes w64 cs ≡ word_at bs k
chunk_reads cs bs k at =
    let first : get_or cs 0 0 ≡ get_or bs (8 * k) 0 = simp add-zero at (at 0 (omega arith)) in
    omega (arith, first, at 1 (omega arith), at 2 (omega arith), at 3 (omega arith), at 4 (omega arith), at 5 (omega arith), at 6 (omega arith), at 7 (omega arith))

-- a chunk of eight bytes, read low byte first, is the word at its place
pub chunk_word : (bs : List ℕ) (k : ℕ) → k < 8 → from_le_bytes w64 (get_or (first_chunks 8 8 bs) k []) ≡ word_at bs k
chunk_word bs k h = chunk_reads (get_or (first_chunks 8 8 bs) k []) bs k (λ j i. chunk_at 8 bs k j h i)

-- the number that is read of a chunk is the word at its place
pub word_read : (bs : List ℕ) (cs : List (List ℕ)) (w k : ℕ) → length bs ≡ 64 → k < 8 → cs ≡ first_chunks 8 (length bs / 8) bs → w ≡ from_le_bytes w64 (get_or cs k []) → w ≡ word_at bs k
word_read bs cs w k long h e is =
    is ∙ ap (λ xs. from_le_bytes w64 (get_or xs k [])) (e ∙ ap (λ n. first_chunks 8 (n / 8) bs) long) ∙ chunk_word bs k h

-- what unpack has read of the bytes: a cluster, and the words of the entries
pub record Read (bs : List ℕ) (c : ℕ) (ws : List ℕ) : Type 0 where
  pub eight : length ws ≡ 8
  pub small : c < 2 ^ (cluster_bits * 8)
  pub parts : (i : ℕ) → i < 8 → cluster_part c i ≡ word_at bs i / 2 ^ content_bits
  pub words : (i : ℕ) → i < 8 → get_or ws i 0 ≡ word_at bs i % 2 ^ content_bits

-- what unpack has read of the bytes as far as a word: the cluster's parts there, and the entries
pub record ReadTo (bs : List ℕ) (c : ℕ) (es : List Entry) (k : ℕ) : Type 0 where
  pub small : c < 2 ^ (cluster_bits * k)
  pub parts : (i : ℕ) → i < k → cluster_part c i ≡ word_at bs i / 2 ^ content_bits
  pub filled : FilledTo (λ i. word_at bs i % 2 ^ content_bits) es k

pub read_all : (bs : List ℕ) (c : ℕ) (es : List Entry) (k : ℕ) → k ≡ 8 → ReadTo bs c es k → Read bs c (map word_of es)
read_all bs c es k e r = record {
  eight = length-map es word_of ∙ r.filled.eight;
  small = subst (λ n. c < 2 ^ (cluster_bits * n)) e r.small;
  parts = λ i h. r.parts i (omega arith);
  words = λ i h. get_or-map word_of es i None 0 (omega (arith, r.filled.eight)) ∙ r.filled.words i (omega arith);
}

-- the word at a place, of a line's entries
word_of_entry : (l : Line) (i : ℕ) → i < 8 → get_or (map word_of l.entries) i 0 ≡ word_of (entry_at l i)
word_of_entry l i h = get_or-map word_of l.entries i None 0 (omega (arith, l.ok.1))

-- a line that packs to the bytes has the record that was read
pub only_record : (l : Line) (bs : List ℕ) (c : ℕ) (ws : List ℕ) → Read bs c ws → packed l ≡ bs → record_of l ≡ c ∷ ws
only_record l bs c ws r e =
    let cluster : l.cluster ≡ c =
    same_parts cluster_bits 8 l.cluster c (omega (arith, l.ok.0)) r.small
    (λ i h. sym (packed_word_high l i) ∙ sym (ap (λ w. w / 2 ^ content_bits) (packed-word_at l bs e i h)) ∙ sym (r.parts i h)) in
    let words : map word_of l.entries ≡ ws =
    ext_get_or 0 (map word_of l.entries) ws (omega (arith, length-map l.entries word_of, l.ok.1, r.eight))
    (λ i h. let p : i < 8 = omega (arith, length-map l.entries word_of, l.ok.1) in
    word_of_entry l i p ∙ sym (packed_word_low l i) ∙ sym (ap (λ w. w % 2 ^ content_bits) (packed-word_at l bs e i p)) ∙ sym (r.words i p)) in
    cc

-- so it has the cluster and the entries that were read
pub only_cluster : (l : Line) (bs : List ℕ) (c : ℕ) (es : List Entry) → Read bs c (map word_of es) → packed l ≡ bs → l.cluster ≡ c
only_cluster l bs c es r e = (record_holds l c es (only_record l bs c (map word_of es) r e)).cluster

pub only_entries : (l : Line) (bs : List ℕ) (c : ℕ) (es : List Entry) → Read bs c (map word_of es) → packed l ≡ bs → l.entries ≡ es
only_entries l bs c es r e = (record_holds l c es (only_record l bs c (map word_of es) r e)).entries

split_bytes : (bs : List ℕ) → ((i : ℕ) → get_or bs i 0 < 256) → (k j : ℕ) → j < 8 → byte_of (word_at bs k) j ≡ get_or bs (8 * k + j) 0
split_bytes bs fit k j h =
    let f0 = fit (8 * k) in
    let f1 = fit (8 * k + 1) in
    let f2 = fit (8 * k + 2) in
    let f3 = fit (8 * k + 3) in
    let f4 = fit (8 * k + 4) in
    let f5 = fit (8 * k + 5) in
    let f6 = fit (8 * k + 6) in
    let f7 = fit (8 * k + 7) in
    search rules

-- the line whose record was read packs to the bytes
pub packs_back : (l : Line) (bs : List ℕ) → length bs ≡ 64 → ((i : ℕ) → get_or bs i 0 < 256) → Read bs l.cluster (map word_of l.entries) → packed l ≡ bs
unfolding packed
packs_back l bs long fit r =
    let w : (k : ℕ) → k < 8 → packed_word l k ≡ word_at bs k = λ k h. omega (arith, r.parts k h, word_of_entry l k h, r.words k h) in
    sym (fill_by_all (packed_byte l) bs 64 0 long (λ b h.
    let p : b / 8 < 8 = omega arith in
    let q : b % 8 < 8 = omega arith in
    let e : 8 * (b / 8) + b % 8 ≡ b = omega arith in
    sym (ap (λ n. byte_of n (b % 8)) (w (b / 8) p) ∙ split_bytes bs fit (b / 8) (b % 8) q ∙ ap (λ n. get_or bs n 0) e)))

read_packed : (l : Line) → Read (packed l) l.cluster (map word_of l.entries)
read_packed l = record {
  eight = length-map l.entries word_of ∙ l.ok.1;
  small = omega (arith, l.ok.0);
  parts = λ i h. sym (packed_word_high l i) ∙ ap (λ w. w / 2 ^ content_bits) (sym (packed-word_at l (packed l) refl i h));
  words = λ i h. word_of_entry l i h ∙ sym (packed_word_low l i) ∙ ap (λ w. w % 2 ^ content_bits) (sym (packed-word_at l (packed l) refl i h));
}

-- different lines pack differently
pub packs_apart : (k l : Line) → packed k ≡ packed l → k ≡ l
packs_apart k l e = records_apart k l (only_record k _ _ _ (read_packed l) e)

-- a packed line unpacks to itself
pub unpacks_back : (r : Result Line LineFault) (bs : List ℕ) → Unpacked bs r → (l : Line) → packed l ≡ bs → r ≡ Ok l
unpacks_back (Ok m) bs h l e = ap Ok (packs_apart m l (h ∙ sym e))
unpacks_back (Err x) bs h l e = absurd (h.1 l e)

-- what unpack promises of its answer
pub record Right (bs : List ℕ) (r : Result Line LineFault) : Type 0 where
  pub said : Unpacked bs r
  pub back : (l : Line) → packed l ≡ bs → r ≡ Ok l

right : (bs : List ℕ) (r : Result Line LineFault) → Unpacked bs r → Right bs r
right bs r said = record { said = said; back = unpacks_back r bs said }

-- the refusal is right where no line packs to the bytes
pub refused : (bs : List ℕ) → ((l : Line) → packed l ≡ bs → ⊥) → Right bs (Err NotALine)
refused bs none = right bs (Err NotALine) (refl, none)

-- what comes of looking for the line of what was read is right
pub unpacked : (bs : List ℕ) (c : ℕ) (es : List Entry) → length bs ≡ 64 → ((i : ℕ) → get_or bs i 0 < 256) → Read bs c (map word_of es) → (o : Option Line) → MatchOption o (NoLine c es) (λ l. Holds l c es) → Right bs (ok_or o NotALine)
unpacked bs c es long fit r None none = refused bs (λ l e. none l (record { cluster = only_cluster l bs c es r e; entries = only_entries l bs c es r e }))
unpacked bs c es long fit r (Some l) holds =
    right bs (Ok l) (packs_back l bs long fit (subst (λ n. Read bs n (map word_of l.entries)) (sym holds.cluster) (subst (λ xs. Read bs c (map word_of xs)) (sym holds.entries) r)))
