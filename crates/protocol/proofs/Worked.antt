-- The worked examples are right.
use Rattle.std.proofs.Common.{[], ◌∷◌, codes, replicate, refl, inl, arith}
use Rattle.std.specs.List.{AllByRecursion}
use Rattle.std.specs.Fmt.{digits}
use Rattle.protocol.specs.Words.{printed}
use Rattle.protocol.specs.Fields.{WrongFields}
use Rattle.protocol.specs.Examples.{IsRead, IsPrinted, correct_lines, wrong_lines, printings, ExamplesRight}
use Rattle.protocol.specs.declared.fault.Fault.TheVariants.{WrongForm}
use Rattle.protocol.proofs.Digit.{no_digit}
use Rattle.protocol.proofs.Coming.{no_field_space, no_field_digit, came_start, came_wrong, came_end}
use Rattle.protocol.proofs.Texts.{first, one_field, two_fields, three_fields}
use Rattle.protocol.proofs.Letters.{reads_wrong, reads_call, reads_long, reads_empty, reads_other, spells_open, spells_claim, spells_close, spells_withdraw, spells_acknowledge, spells_sweep}

all_correct : AllByRecursion IsRead correct_lines
all_correct = (
  reads_call spells_open 79 (codes " 63 1000") (63 ∷ 1000 ∷ []) refl (omega arith) refl (two_fields (codes "63 1000") (codes "1000") (omega arith) refl (omega arith) refl),
  (
    reads_call spells_claim 67 (codes " 1 1023 196871") (1 ∷ 1023 ∷ 196871 ∷ []) refl (omega arith) refl (three_fields (codes "1 1023 196871") (codes "1023 196871") (codes "196871") (omega arith) refl (omega arith) refl (omega arith) refl),
    (
      reads_call spells_close 69 (codes " 0") (0 ∷ []) refl (omega arith) refl (one_field (codes "0") (omega arith) refl),
      (
        reads_call spells_withdraw 87 (codes " 12") (12 ∷ []) refl (omega arith) refl (one_field (codes "12") (omega arith) refl),
        (
          reads_call spells_acknowledge 65 (codes " 7") (7 ∷ []) refl (omega arith) refl (one_field (codes "7") (omega arith) refl),
          (reads_call spells_sweep 83 [] [] refl (omega arith) refl refl, tt),
        ),
      ),
    ),
  ),
)

all_wrong : AllByRecursion IsRead wrong_lines
all_wrong = (
  reads_long _ _ refl (omega arith),
  (
    reads_wrong spells_sweep 83 (replicate 31 32) _ refl (omega arith) (came_end (replicate 31 32) [] (replicate 31 32) 2 0 _ (came_start (replicate 31 32)) refl (omega arith) refl),
    (
      reads_empty [] _ refl refl,
      (
        reads_other 115 [] _ refl (omega arith) (λ e. omega (arith, e)) (λ e. omega (arith, e)) (λ e. omega (arith, e)) (λ e. omega (arith, e)) (λ e. omega (arith, e)) (λ e. omega (arith, e)),
        (
          reads_wrong spells_open 79 (codes " 1") _ refl (omega arith) few_fields,
          (
            reads_wrong spells_close 69 (codes " 1 2") _ refl (omega arith) more_fields,
            (
              reads_wrong spells_open 79 (codes " 01 5") _ refl (omega arith) leading_zero,
              (
                reads_wrong spells_withdraw 87 (codes " 1234567") _ refl (omega arith) seven_digits,
                (
                  reads_wrong spells_acknowledge 65 (codes "  1") _ refl (omega arith) two_spaces,
                  (reads_wrong spells_sweep 83 (codes " ") _ refl (omega arith) (came_end (codes " ") [] (codes " ") 2 0 _ (came_start (codes " ")) refl (omega arith) refl), tt),
                ),
              ),
            ),
          ),
        ),
      ),
    ),
  ),
)
  where
    few_fields : WrongFields 2 (codes " 1") (WrongForm 4)
    few_fields =
        let text = codes " 1" in
        came_wrong text (1 ∷ []) [] 4 2 _ (first (codes "1") (omega arith)) (omega arith) (no_field_space [] 4 _ refl (λ e. omega (arith, e)))

    more_fields : WrongFields 1 (codes " 1 2") (WrongForm 4)
    more_fields =
        let text = codes " 1 2" in
        came_end text (1 ∷ []) (codes " 2") 4 1 _ (first (codes "1 2") (omega arith)) refl (omega arith) refl

    leading_zero : WrongFields 2 (codes " 01 5") (WrongForm 4)
    leading_zero =
        let text = codes " 01 5" in
        came_wrong text (0 ∷ []) (codes "1 5") 4 2 _ (first (codes "01 5") (omega arith)) (omega arith) (no_field_space (codes "1 5") 4 _ refl (λ e. omega (arith, e)))

    seven_digits : WrongFields 1 (codes " 1234567") (WrongForm 9)
    seven_digits =
        let text = codes " 1234567" in
        came_end text (123456 ∷ []) (codes "7") 9 1 _ (first (codes "1234567") (omega arith)) refl (omega arith) refl

    two_spaces : WrongFields 1 (codes "  1") (WrongForm 3)
    two_spaces =
        let text = codes "  1" in
        came_wrong text [] text 2 1 _ (came_start text) (omega arith) (no_field_digit text (codes " 1") 2 _ refl refl (no_digit 32 (inl (omega arith))))

all_printed : AllByRecursion IsPrinted printings
unfolding printed digits
all_printed = search

pub all_right : ExamplesRight
all_right = record { correct = all_correct; wrong = all_wrong; printing = all_printed; fault_rows = search }
