-- What the search leaves to show of `unpack`.
use Rattle.std.proofs.Common.{◌≡◌, ℕ, ◌+◌, ◌*◌, ◌/◌, ◌%◌, ◌^◌, ◌<◌, ◌≤◌, length, sym, ap, ◌∙◌, subst, arith, below_more, rules}
use Rattle.std.proofs.lemmas.Nat.{shl_whole}
use Rattle.std.proofs.Math.Pow.{pow_mono}
use Rattle.std.specs.Prelude.{Some, None}
use Rattle.lines.specs.Entries.{word_of}
use Rattle.lines.specs.Lines.{entry_at, Holds, NoLine}
use Rattle.lines.specs.Packs.{cluster_bits, content_bits, word_at}
use Rattle.lines.proofs.Bytes.{length-packed, packed-word_at, packed_word_low, word_read, read_all, refused, unpacked}
use Rattle.lines.proofs.Parts.{part_here, part_below, parts_more}
use Rattle.lines.proofs.Recorded.{none_filled, filled_more, filled_past}
use Rattle.lines.proofs.rows.Line.unpack.Goals as goal
use Rattle.lines.proofs.rows.Line.unpack.Goals.{in-Some-entry, in_default-entry}

pub returns-then-bytes-ne64 : goal.returns-then-bytes-ne64
returns-then-bytes-ne64 c =
    let r = refused c.args.bytes.now (λ l e. c.if-bytes-ne64.true (sym (ap length e) ∙ length-packed l)) in
    record { said = r.said; back = r.back }

pub loop-k-init : goal.loop-k-init
loop-k-init c = record { small = omega arith; parts = λ i h. absurd (omega arith); filled = none_filled _ }

pub returns-in_default : goal.returns-in_default
returns-in_default c =
    let bs = c.args.bytes.now in
    let k : ℕ = c.loop-k.k in
    let h : k < 8 = omega (arith, c.as_chunks.ensures.front_len) in
    let word : c.from_le_bytes-word.result ≡ word_at bs k = word_read bs _ _ k c.if-bytes-ne64.false h c.as_chunks.ensures.front c.from_le_bytes-word.ensures in
    let r = refused bs (λ l e. c.in_default.ensures (entry_at l k) (sym (packed_word_low l k) ∙ ap (λ w. w % 2 ^ content_bits) (sym (packed-word_at l bs e k h) ∙ sym word))) in
    record { said = r.said; back = r.back }

pub overflow_add-cluster : goal.overflow_add-cluster
overflow_add-cluster c =
    let k : ℕ = c.loop-k.k in
    let n : ℕ = c.loop-k.cluster in
    let t : ℕ = c.from_le_bytes-word.result / 2 ^ content_bits in
    let h : k < 8 = omega (arith, c.as_chunks.ensures.front_len) in
    let small : t < 2 ^ cluster_bits = search rules in
    let shl : t * 2 ^ (cluster_bits * k) % 2 ^ 64 ≡ t * 2 ^ (cluster_bits * k) = shl_whole t cluster_bits (cluster_bits * k) 64 small (omega arith) in
    let more : n + t * 2 ^ (cluster_bits * k) < 2 ^ (cluster_bits * (k + 1)) = parts_more cluster_bits n t k c.loop-k.invariant.small small in
    let most : 2 ^ (cluster_bits * (k + 1)) ≤ 2 ^ 64 = pow_mono {i = cluster_bits * (k + 1)} {j = 64} (omega arith) in
    omega arith

pub loop-k-preserved : goal.loop-k-preserved
loop-k-preserved c =
    let bs = c.args.bytes.now in
    let k : ℕ = c.loop-k.k in
    let n : ℕ = c.loop-k.cluster in
    let h : k < 8 = omega (arith, c.as_chunks.ensures.front_len) in
    let word : c.from_le_bytes-word.result ≡ word_at bs k = word_read bs _ _ k c.if-bytes-ne64.false h c.as_chunks.ensures.front c.from_le_bytes-word.ensures in
    let held : word_of c.in-Some.entry ≡ word_at bs k % 2 ^ content_bits = c.in-Some.ensures ∙ ap (λ w. w % 2 ^ content_bits) word in
    let t : ℕ = c.from_le_bytes-word.result / 2 ^ content_bits in
    let small : t < 2 ^ cluster_bits = search rules in
    let shl : t * 2 ^ (cluster_bits * k) % 2 ^ 64 ≡ t * 2 ^ (cluster_bits * k) = shl_whole t cluster_bits (cluster_bits * k) 64 small (omega arith) in
    record {
      small = simp shl (parts_more cluster_bits n t k c.loop-k.invariant.small small);
      parts = simp shl (below_more _ _ (λ i l. part_below cluster_bits n t k i l ∙ c.loop-k.invariant.parts i l)
          (part_here cluster_bits n t k c.loop-k.invariant.small small ∙ ap (λ w. w / 2 ^ content_bits) word));
      filled = elim c.match-entry.branch [
        | in-Some-entry w ↦ filled_more _ c.loop-k.entries _ k w.in-Some-entry.mapping h (sym (ap word_of w.in-Some-entry.is) ∙ held) c.loop-k.invariant.filled w.entries-is
        | in_default-entry w ↦ filled_past _ c.loop-k.entries _ k (sym (ap word_of w.in_default-entry.is) ∙ held) c.loop-k.invariant.filled w.entries-is
      ];
    }

pub returns-in_default-new : goal.returns-in_default-new
returns-in_default-new c =
    let none : NoLine c.loop-k.cluster c.loop-k.entries = subst (λ n. NoLine n c.loop-k.entries) (search rules) c.in_default-new.ensures in
    let r = unpacked _ _ _ c.if-bytes-ne64.false (λ i. omega (arith, c.type_inv.bytes i))
    (read_all _ _ _ c.loop-k.k (omega (arith, c.as_chunks.ensures.front_len)) c.loop-k.invariant) None none in
    record { said = r.said; back = r.back }

pub returns : goal.returns
returns c =
    let held : Holds c.in-Some-new.line c.loop-k.cluster c.loop-k.entries = subst (λ n. Holds c.in-Some-new.line n c.loop-k.entries) (search rules) c.in-Some-new.ensures in
    let r = unpacked _ _ _ c.if-bytes-ne64.false (λ i. omega (arith, c.type_inv.bytes i))
    (read_all _ _ _ c.loop-k.k (omega (arith, c.as_chunks.ensures.front_len)) c.loop-k.invariant) (Some c.in-Some-new.line) held in
    record { said = r.said; back = r.back }
