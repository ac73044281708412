use Rattle.std.proofs.Common.{◌≡◌, ℕ, sym, ap, ◌∙◌, ⊎_elim, arith, append_assoc}
use Rattle.model.specs.Calls.{answer_refused}
use Rattle.text_buffer.proofs.TextBufferLemmas.{behind_behind}
use Rattle.protocol.specs.Faults.{fault_number, fault_place, fault_layer}
use Rattle.protocol.specs.Words.{words, answer, fault_reply}
use Rattle.protocol.specs.declared.fault.Layer.{Layer}
use Rattle.protocol.proofs.Lengths.{fault_short, refused_short}
use Rattle.protocol.proofs.outcome.put_fault.Goals as goal

-- the words of a fault, by its layer
said-by : (number place : ℕ) {l k : Layer} → l ≡ k → words (fault_reply l number place) ≡ words (fault_reply k number place)
said-by number place e = ap (λ (l : Layer). words (fault_reply l number place)) e

pub returns-in-Line : goal.returns-in-Line
returns-in-Line c =
    let f = c.args.fault in
    let is = said-by (fault_number f) (fault_place f) (sym c.layer.ensures ∙ c.in-Line.is) in
    rw is record {
      puts =
          rw (c.put_number-in-Line.ensures, c.from-in-Line.ensures, c.place.ensures, c.put_all-in-Line.ensures, c.put_number.ensures, c.from.ensures, c.number.ensures, c.put_all.ensures)
          (simp (behind_behind, append_assoc));
      short = fault_short (fault_number f) (fault_place f) (omega arith) (omega arith);
    }

pub returns-in-UseTable : goal.returns-in-UseTable
returns-in-UseTable c =
    let f = c.args.fault in
    let is : words (fault_reply (fault_layer f) (fault_number f) (fault_place f)) ≡ words (answer (answer_refused (fault_number f))) =
    ⊎_elim (λ e. said-by (fault_number f) (fault_place f) (sym c.layer.ensures ∙ e)) (λ e. said-by (fault_number f) (fault_place f) (sym c.layer.ensures ∙ e)) c.in-UseTable.is in
    rw is record {
      puts =
          rw (c.put_number-in-UseTable.ensures, c.from-in-UseTable.ensures, c.number-in-UseTable.ensures, c.put_all-in-UseTable.ensures)
          (simp behind_behind);
      short = refused_short (fault_number f) (omega arith);
    }
