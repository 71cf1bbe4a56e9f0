-- What the search leaves to show of the text of a stay: it is that of its parts.
use Rattle.std.proofs.Common.{refl, rules}
use Rattle.std.specs.Fmt.{HasWritten}
use Rattle.std.proofs.Output.{has_written_append, has_written_of_eq}
use Rattle.stores.specs.Refusals.{refusal}
use Rattle.keeping.specs.Stays.{chunks_for}
use Rattle.store_account.specs.Accounts.{answer_text, asked_text, written_text, back_text}
use Rattle.store_account.proofs.texts.StayTextDisplay.fmt.Goals as goal

pub returns-clause-writes : goal.returns-clause-writes
unfolding asked_text written_text back_text
returns-clause-writes g c p ok =
    let t = c.args.self.now in
    let s = t.stay in
    let took = g.W.Write.write_str_gives in
    let asked : HasWritten took _ (asked_text (chunks_for t.shape.rows t.lines) (answer_text (refusal s.asked))) _
    = has_written_of_eq _ _ _ _ _ (search rules) (c.in_ok-writeln.ensures.writes p refl) in
    let written : HasWritten took _ (written_text s.chunks s.rows t.shape.row_bytes) _
    = has_written_of_eq _ _ _ _ _ (rw c.bytes_of_rows-bytes.ensures) (c.in_ok-writeln-2.ensures.writes asked.plain refl) in
    let stop = c.in_ok-write.ensures.writes written.plain refl in
    let back : HasWritten took _ (back_text s.same s.chunks t.free) _
    = has_written_of_eq _ _ _ _ _ (search rules) (c.writeln-3.ensures.writes stop.plain ok) in
    has_written_append _ _ _ _ _ _ asked (has_written_append _ _ _ _ _ _ written (has_written_append _ _ _ _ _ _ stop back))
