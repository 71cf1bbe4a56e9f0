-- What the search leaves to show of `line_with`.
use Rattle.std.proofs.Common.{◌≡◌, rules, Some, sym, ap, ◌∙◌}
use Rattle.std.specs.BTreeMap.{get}
use Rattle.std.specs.Ordering.{nat_cmp}
use Rattle.lines.specs.Numbers.{cluster_of}
use Rattle.layout.proofs.Joining.{joined_with}
use Rattle.layout.proofs.sheets.Layout.line_with.Goals as goal

pub returns-in-None : goal.returns-in-None
returns-in-None c =
    let m = c.args.self.now.lines in
    let p = c.args.listed.page.number in
    let b = c.in-Some.line.now in
    let found : get nat_cmp m (cluster_of p) ≡ Some b = sym (c.in-Some.ensures.value ∙ ap (get nat_cmp m) c.cluster.ensures) in
    joined_with m p b c.args.listed.mapping c.with.result found (c.args.self.now.own _ b found) (search rules) (search rules)
