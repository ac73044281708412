use Rattle.std.proofs.Common.{◌≡◌, ℕ, length, get_or, codes, ap, ◌∙◌, arith, rules, w8, w16, Fits}
use Rattle.text_buffer.specs.TextBuffer.{put_behind}
use Rattle.text_buffer.proofs.TextBufferLemmas.{behind_fits, behind_behind}
use Rattle.protocol.specs.Words.{entry_lines, recalled_entries, woken_entries}
use Rattle.protocol.proofs.NameLines.{lines_same, recalled_places, woken_places, named_short}
use Rattle.protocol.proofs.outcome.put_report.Goals as goal

pub put_names-requires-2 : goal.put_names-requires-2
put_names-requires-2 c = rw c.put_names.ensures (behind_fits c.args.out.now _)

pub returns : goal.returns
returns c =
    let r = c.args.report.now in
    let n = c.args.number in
    let m = c.min-recalled.result in
    let end = c.min-named.result in
    let long : length r.dispatches ≡ 64 = omega arith in
    let long' : length r.sections ≡ 64 = omega arith in
    let recalls = entry_lines n (codes "recall") (recalled_entries r) in
    let wakes = entry_lines n (codes "wake") (woken_entries r) in
    let recalled : c.put_names.new.out ≡ put_behind c.args.out.now recalls =
    c.put_names.ensures
    ∙ ap (put_behind c.args.out.now)
    (lines_same n (codes "recall") (recalled_places r.recalled m r.dispatches long c.min-recalled.ensures) (recalled_places r.recalled m r.sections long' c.min-recalled.ensures)) in
    let woken : c.put_names-2.new.out ≡ put_behind (c.put_names.new.out) wakes =
    c.put_names-2.ensures
    ∙ ap (put_behind (c.put_names.new.out))
    (lines_same n (codes "wake") (woken_places r.recalled r.woken m end r.dispatches long c.min-recalled.ensures c.min-named.ensures) (woken_places r.recalled r.woken m end r.sections long' c.min-recalled.ensures c.min-named.ensures)) in
    let fits_8 : (i : ℕ) → Fits w8 (get_or r.dispatches i 0) = λ i. search rules in
    let fits_16 : (i : ℕ) → Fits w16 (get_or r.sections i 0) = λ i. search rules in
    record {
      puts = rw (woken, recalled) (behind_behind c.args.out.now recalls wakes);
      short = named_short n r (omega arith) (record { places = long; numbers = λ i. omega (arith, fits_8 i); sections = λ i. omega (arith, fits_16 i) });
    }
