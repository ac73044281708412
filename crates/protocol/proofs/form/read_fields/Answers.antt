use Rattle.std.proofs.Common.{rules}
use Rattle.protocol.proofs.Letters.{reads_passed, reads_call, reads_other, spells_open, spells_claim, spells_close, spells_withdraw, spells_acknowledge, spells_sweep}
use Rattle.protocol.proofs.form.read_fields.Goals as goal

pub returns-in_err-dispatch-in-O : goal.returns-in_err-dispatch-in-O
returns-in_err-dispatch-in-O c = reads_passed spells_open _ _ _ _ c.in-O.is c.requires c.from_residual.ensures.1 c.in_err-dispatch-in-O.ensures

pub returns-in_ok-dispatch-in-O : goal.returns-in_ok-dispatch-in-O
returns-in_ok-dispatch-in-O c = search (rules, reads_call spells_open)

pub returns-in_err-dispatch-in-C : goal.returns-in_err-dispatch-in-C
returns-in_err-dispatch-in-C c = reads_passed spells_claim _ _ _ _ c.in-C.is c.requires c.from_residual-in_err-dispatch-in-C.ensures.1 c.in_err-dispatch-in-C.ensures

pub returns-in_ok-dispatch-in-C : goal.returns-in_ok-dispatch-in-C
returns-in_ok-dispatch-in-C c = search (rules, reads_call spells_claim)

pub returns-in_err-dispatch-in-E : goal.returns-in_err-dispatch-in-E
returns-in_err-dispatch-in-E c = reads_passed spells_close _ _ _ _ c.in-E.is c.requires c.from_residual-in_err-dispatch-in-E.ensures.1 c.in_err-dispatch-in-E.ensures

pub returns-in_ok-dispatch-in-E : goal.returns-in_ok-dispatch-in-E
returns-in_ok-dispatch-in-E c = search (rules, reads_call spells_close)

pub returns-in_err-dispatch-in-W : goal.returns-in_err-dispatch-in-W
returns-in_err-dispatch-in-W c = reads_passed spells_withdraw _ _ _ _ c.in-W.is c.requires c.from_residual-in_err-dispatch-in-W.ensures.1 c.in_err-dispatch-in-W.ensures

pub returns-in_ok-dispatch-in-W : goal.returns-in_ok-dispatch-in-W
returns-in_ok-dispatch-in-W c = search (rules, reads_call spells_withdraw)

pub returns-in_err-dispatch-in-A : goal.returns-in_err-dispatch-in-A
returns-in_err-dispatch-in-A c = reads_passed spells_acknowledge _ _ _ _ c.in-A.is c.requires c.from_residual-in_err-dispatch-in-A.ensures.1 c.in_err-dispatch-in-A.ensures

pub returns-in_ok-dispatch-in-A : goal.returns-in_ok-dispatch-in-A
returns-in_ok-dispatch-in-A c = search (rules, reads_call spells_acknowledge)

pub returns-in_err-read_numbers-in-S : goal.returns-in_err-read_numbers-in-S
returns-in_err-read_numbers-in-S c = reads_passed spells_sweep _ _ _ _ c.in-S.is c.requires c.from_residual-in_err-read_numbers-in-S.ensures.1 c.in_err-read_numbers-in-S.ensures

pub returns-in_ok-read_numbers-in-S : goal.returns-in_ok-read_numbers-in-S
returns-in_ok-read_numbers-in-S c = search (rules, reads_call spells_sweep)

pub returns-in_default : goal.returns-in_default
returns-in_default c = search (rules, reads_other)
