-- A report: its 64 places, whom it names, and its text.
use Rattle.std.specs.Prelude.{ℕ, List, ◌++◌, map, length, take, drop, replicate, codes, decimal}
use Rattle.std.specs.List.{zip, flat_map}
use Rattle.model.specs.declared.limits.TheConstants.{DISPATCHES}
use Rattle.model.specs.declared.report.TheConstants.{UNUSED_DISPATCH, UNUSED_SECTION}
use Rattle.model.specs.declared.report.ReportEntry.{ReportEntry}
use Rattle.model.specs.declared.report.Report.{Report}

-- 64 places: the given, and then unused ones
abbrev pub places : ℕ → List ℕ → List ℕ
places unused ns = take DISPATCHES (ns ++ replicate DISPATCHES unused)

-- a report of the recalled and the woken
abbrev pub report_of : List ReportEntry → List ReportEntry → Report
report_of recalls wakes = record {
  recalled = length recalls;
  woken = length wakes;
  dispatches = places UNUSED_DISPATCH (map (λ n. n.dispatch) (recalls ++ wakes));
  sections = places UNUSED_SECTION (map (λ n. n.section) (recalls ++ wakes));
}

-- dispatches and sections, place by place
abbrev pub entries : List ℕ → List ℕ → List ReportEntry
entries ds ss = map (λ p. record { dispatch = p.0; section = p.1 }) (zip ds ss)

-- whom a report names as recalled: its first places
abbrev pub recalls_of : Report → List ReportEntry
recalls_of r = entries (take r.recalled r.dispatches) (take r.recalled r.sections)

-- whom a report names as woken: the places after those
abbrev pub wakes_of : Report → List ReportEntry
wakes_of r =
    entries (take r.woken (drop r.recalled r.dispatches))
    (take r.woken (drop r.recalled r.sections))

-- the text of an entry: its dispatch, a space, its section
abbrev pub entry_text : ReportEntry → List ℕ
entry_text e = decimal e.dispatch ++ (codes " " ++ decimal e.section)

-- a word and an entry, as a line with byte 10 at its end
abbrev pub entry_line : List ℕ → ReportEntry → List ℕ
entry_line word e = word ++ (codes " " ++ (entry_text e ++ codes "\n"))

-- the text of a report: a line for each of the recalled, then one for each of the woken
abbrev pub report_text : Report → List ℕ
report_text r =
    flat_map (entry_line (codes "recall")) (recalls_of r)
    ++ flat_map (entry_line (codes "wake")) (wakes_of r)
