use Rattle.std.proofs.Common.{ℕ, List, ◌++◌, take, sym, ap, ◌∙◌, subst, arith}
use Rattle.std.proofs.lemmas.List.{take_all}
use Rattle.session.specs.Inputs.{IsUnbroken}
use Rattle.session.proofs.Gathering.{Gathered, unbroken_before, all_of_line, line_ends, read_gathered, line_read}
use Rattle.session.proofs.Histories.{after_input}
use Rattle.session.proofs.console.Console.take.Goals as goal

pub gather-requires : goal.gather-requires
gather-requires g c =
    let piece = c.args.piece.now in
    let n = c.before_line_end-count.result in
    let all = take_all n piece (omega arith) in
    subst IsUnbroken all (rw c.before_line_end-count.ensures (unbroken_before piece))

pub end_line-requires : goal.end_line-requires
end_line-requires g c = rw c.before_line_end-count.ensures (unbroken_before c.args.piece.now)

pub returns-then-count-piece-clause-taken : goal.returns-then-count-piece-clause-taken
returns-then-count-piece-clause-taken g c = all_of_line c.args.piece.now c.before_line_end-count.result c.before_line_end-count.ensures c.if-count-piece.true

pub returns-then-count-piece-clause-read : goal.returns-then-count-piece-clause-read
returns-then-count-piece-clause-read g c =
    let first = c.args.self.now in
    let m = g.T.UseTable.meaning in
    let p = g.O.RecallOrder.meaning in
    let piece = c.args.piece.now in
    let n = c.before_line_end-count.result in
    let all = take_all n piece (omega arith) in
    let gathered : Gathered first c.gather.new.self piece n = record {
      same_book = c.gather.ensures.book;
      same_count = c.gather.ensures.answered;
      kept = c.gather.ensures.kept ∙ ap (λ (xs : List ℕ). take 33 (first.line ++ xs)) (sym all);
      unbroken = rw c.before_line_end-count.ensures (unbroken_before piece);
    } in
    after_input m p first _ first.history (λ detection input before h. read_gathered (m first.book.policy.table) (p first.book.policy.order) detection input before c.clear.new.self first c.gather.new.self piece n gathered c.clear.ensures h)

pub returns : goal.returns
returns g c =
    let first = c.args.self.now in
    let m = g.T.UseTable.meaning in
    let p = g.O.RecallOrder.meaning in
    let piece = c.args.piece.now in
    let n = c.before_line_end-count.result in
    let ends = line_ends piece n c.before_line_end-count.ensures c.if-count-piece.false in
    record {
      taken = ends.1;
      read = after_input m p first _ first.history (λ detection input before h. line_read m p c.end_line.new.printed detection input before first c.end_line.new.self piece n (rw c.before_line_end-count.ensures (unbroken_before piece)) ends.0 ends.2 c.end_line.ensures.done h);
      policy = c.end_line.ensures.policy;
    }

pub overflow_add-result : goal.overflow_add-result
overflow_add-result g c = let ends = line_ends c.args.piece.now c.before_line_end-count.result c.before_line_end-count.ensures c.if-count-piece.false in omega (arith, ends.0)
