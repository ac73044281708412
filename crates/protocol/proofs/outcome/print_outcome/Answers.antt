use Rattle.std.proofs.Common.{arith}
use Rattle.text_buffer.proofs.TextBufferLemmas.{behind_fits}
use Rattle.protocol.specs.Words.{words, reply_to, printed, printed_line}
use Rattle.protocol.proofs.NameLines.{all_fits, reply_alone}
use Rattle.protocol.proofs.outcome.print_outcome.Goals as goal

pub put_report-requires : goal.put_report-requires
put_report-requires c = rw c.put_reply.ensures.puts (behind_fits c.clear.new.self _)

pub returns-then-report-gt0 : goal.returns-then-report-gt0
unfolding printed
returns-then-report-gt0 c =
    let line = printed_line c.args.number (words (reply_to c.args.outcome)) in
    rw (c.put_report.ensures.puts, c.put_reply.ensures.puts, c.clear.ensures)
    (all_fits line _ c.put_reply.ensures.short c.put_report.ensures.short)

pub returns-else-report-gt0-2 : goal.returns-else-report-gt0-2
unfolding printed
returns-else-report-gt0-2 c =
    let line = printed_line c.args.number (words (reply_to c.args.outcome)) in
    rw (c.put_reply.ensures.puts, c.clear.ensures)
    (reply_alone c.args.number line c.args.report.now c.put_reply.ensures.short (omega arith) (omega arith))
