-- A page set in its cluster's line.
use Rattle.std.proofs.Common.{◌≡◌, ℕ, ◌+◌, ◌*◌, ◌<◌, true, cond, not, eqb, List, length, get_or, set, Some, None, box_value, Box, ap, ◌∙◌, ⊎_elim, arith, eqb-true, rules}
use Rattle.std.proofs.lemmas.Bool.{and_parts, cases_eq}
use Rattle.std.specs.BTreeMap.{BTreeMap, get}
use Rattle.std.specs.Ordering.{nat_cmp}
use Rattle.lines.specs.declared.entries.Mapping.{Mapping}
use Rattle.lines.specs.declared.rows.Line.{Line}
use Rattle.lines.specs.Entries.{Entry, word_of, any_present}
use Rattle.lines.specs.Lines.{entry_at, is_empty, is_of, Holds}
use Rattle.lines.specs.Numbers.{cluster_of, position_of}
use Rattle.layout.specs.Steps.{Joined}
use Rattle.lines.proofs.Present.{any_set}

-- an entry set in a list of entries, by words
word_set : (es : List Entry) (i k : ℕ) (x : Entry) → i < length es → word_of (get_or (set es i x) k None) ≡ cond (eqb k i) (word_of x) (word_of (get_or es k None))
word_set es i k x h = ⊎_elim (λ (e : k ≡ i). search rules) (λ (d : k ≡ i → ⊥). search rules) (cases_eq k i)

pub joined_with : {Y : Type 0} (m : BTreeMap ℕ (Box Line Y)) (p : ℕ) (b : Box Line Y) (x : Mapping) (l : Line) → get nat_cmp m (cluster_of p) ≡ Some b → is_of (cluster_of p) (box_value b) ≡ true → entry_at (box_value b) (position_of p) ≡ None → Holds l (box_value b).cluster (set (box_value b).entries (position_of p) (Some x)) → Joined m p (x.frame * 8 + x.rights) l
joined_with m p b x l found mine free h =
    let old = box_value b in
    let same : old.cluster ≡ cluster_of p = eqb-true old.cluster (cluster_of p) (and_parts (not (is_empty old)) _ mine).1 in
    let within : position_of p < length old.entries = omega (arith, old.ok.1) in
    let some : any_present l.entries ≡ true = ap any_present h.entries ∙ any_set old.entries (position_of p) x within in
    record {
      free = search rules;
      own = search rules;
      words = λ k. let w = word_set old.entries (position_of p) k (Some x) within in search rules;
    }
