use Rattle.std.proofs.Common.{ℕ, [], List, ◌++◌, take, refl, sym, ap, ◌∙◌, append-nil, subst, arith}
use Rattle.std.proofs.lemmas.List.{take_all}
use Rattle.session.specs.Inputs.{IsUnbroken}
use Rattle.session.specs.Stands.{Reads}
use Rattle.session.proofs.Gathering.{Gathered, unbroken_before, read_gathered}
use Rattle.session.proofs.Histories.{after_input}
use Rattle.session.proofs.console.Console.take_all.Goals as goal

pub gather-requires : goal.gather-requires
gather-requires g c =
    let piece = c.args.piece.now in
    let n = c.before_line_end.result in
    let all = take_all n piece (omega (arith, c.if-before_line_end-piece.true)) in
    subst IsUnbroken all (rw c.before_line_end.ensures (unbroken_before piece))

pub returns-then-before_line_end-piece-clause-read : goal.returns-then-before_line_end-piece-clause-read
returns-then-before_line_end-piece-clause-read g c =
    let first = c.args.self.now in
    let m = g.T.UseTable.meaning in
    let p = g.O.RecallOrder.meaning in
    let piece = c.args.piece.now in
    let n = c.before_line_end.result in
    let all = take_all n piece (omega (arith, c.if-before_line_end-piece.true)) in
    let gathered : Gathered first c.gather.new.self piece n = record {
      same_book = c.gather.ensures.book;
      same_count = c.gather.ensures.answered;
      kept = c.gather.ensures.kept ∙ ap (λ (xs : List ℕ). take 33 (first.line ++ xs)) (sym all);
      unbroken = rw c.before_line_end.ensures (unbroken_before piece);
    } in
    let reads : Reads m p first c.gather.new.self (take n piece) [] =
    after_input m p first _ first.history (λ detection input before h. read_gathered (m first.book.policy.table) (p first.book.policy.order) detection input before [] first c.gather.new.self piece n gathered refl h) in
    ([], sym (append-nil c.args.out.now.items), subst (λ (xs : List ℕ). Reads m p first c.gather.new.self xs []) all reads)
