-- What the search leaves to show of `take_row`.
use Rattle.std.proofs.Common.{ℕ, List, ◌++◌, map, vec_items, refl, sym, ap, ◌∙◌, append-nil, arith, rules}
use Rattle.std.specs.Box.{with_value}
use Rattle.reading.specs.Numbers.{three_of}
use Rattle.layout.specs.Sheets.{refusal}
use Rattle.layout.proofs.Entering.{Put, own_still, of_its_cluster, book_after, none_noted}
use Rattle.layout.proofs.sheets.Layout.take_row.Goals as goal
use Rattle.layout.proofs.sheets.Layout.take_row.Goals.{in-Occupied, in-Vacant+in_ok-new-in-Vacant}

pub invariant_of-self-in-Ok : goal.invariant_of-self-in-Ok
invariant_of-self-in-Ok c =
    let m = c.args.self.now.lines in
    let n = c.match-branch-2.self.1.0 in
    let l = c.in-Ok.entered in
    let put : Put m n l = elim c.match-branch-2.branch [
      | in-Occupied w ↦ record { box = with_value w.get_mut.result.now l; holds = refl; updates = search rules; ordered = search rules }
      | in-Vacant+in_ok-new-in-Vacant w ↦ record { box = w.insert.result.now; holds = search rules; updates = search rules; ordered = search rules }
    ] in
    record {
      ordered = put.ordered;
      own = own_still m n l put (of_its_cluster m (three_of c.args.row.now) l c.in-Ok.ensures) c.args.self.now.own;
    }

pub returns-after-branch-2 : goal.returns-after-branch-2
returns-after-branch-2 c =
    let m = c.args.self.now.lines in
    let n = c.match-branch-2.self.1.0 in
    let l = c.in-Ok.entered in
    let put : Put m n l = elim c.match-branch-2.branch [
      | in-Occupied w ↦ record { box = with_value w.get_mut.result.now l; holds = refl; updates = search rules; ordered = search rules }
      | in-Vacant+in_ok-new-in-Vacant w ↦ record { box = w.insert.result.now; holds = search rules; updates = search rules; ordered = search rules }
    ] in
    let t = three_of c.args.row.now in
    let before : List (ℕ × List ℕ) = map refusal (vec_items c.args.self.now.refused) in
    record {
      book = book_after m n l put t c.in-Ok.ensures;
      refused = sym (ap (λ said. before ++ said) (none_noted m c.args.line t l c.in-Ok.ensures) ∙ append-nil before);
      pages = omega arith;
    }
