-- When two stores are one, and what calls that undo each other leave.
use Rattle.std.proofs.Common.{◌≡◌, ℕ, ◌+◌, Bool, true, false, cond, not, List, set, sym, ap, ◌∙◌, ap₂, arith, set-set}
use mathlib.Core.Path.{fun_ext}
use lib.Seq.{set-get_or}
use Rattle.std.proofs.lemmas.List.Sums.{sum_by-set}
use Rattle.std.proofs.lemmas.Bool.{and_left}
use Rattle.std.proofs.lemmas.Bool.Decides.{nat_tests}
use Rattle.lines.specs.declared.rows.Line.{Line}
use Rattle.lines.specs.Lines.{empty_line}
use Rattle.stores.specs.Chunks.{is_out, Free, free_count}
use Rattle.stores.specs.Stores.{Store, Bounded, taken, given_back, written}

pub same_store : (s t : Store) → s.out ≡ t.out → ((c r : ℕ) → s.line c r ≡ t.line c r) → s ≡ t
same_store s t outs lines = ap₂ (λ o l. record { out = o; line = l }) outs (fun_ext (λ c. fun_ext (λ r. lines c r)))

set_back : (out : List Bool) (c : ℕ) → is_out out c ≡ false → set (set out c true) c false ≡ out
set_back out c was = set-set out c true false ∙ ap (set out c) (sym was) ∙ set-get_or out c false

-- no line is told of a chunk that is not out
pub not_out_empty : (rows : ℕ) (s : Store) (c r : ℕ) → Bounded rows s → is_out s.out c ≡ false → s.line c r ≡ empty_line
not_out_empty rows s c r b f = b c r (and_left _ _ f)

-- a chunk taken, perhaps written to, and given back leaves the store as it was
pub back_again : (rows : ℕ) (s : Store) (c r : ℕ) (l : Line) (wrote : Bool) → Bounded rows s → is_out s.out c ≡ false → given_back (cond wrote (written (taken s c) c r l) (taken s c)) c ≡ s
back_again rows s c r l true b was = same_store _ s (set_back s.out c was) (λ d q. let e = not_out_empty rows s c q b was in grind (arith, nat_tests))
back_again rows s c r l false b was = same_store _ s (set_back s.out c was) (λ d q. let e = not_out_empty rows s c q b was in grind (arith, nat_tests))

-- a chunk taken is one fewer free
pub free_taken : (out : List Bool) (c : ℕ) → Free out c → free_count (set out c true) + 1 ≡ free_count out
free_taken out c f =
    let e = rw f.1 at (sum_by-set (λ b. cond (not b) 1 0) out c true false f.0) in omega arith
