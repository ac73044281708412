use Rattle.std.proofs.Common.{rules}
use Rattle.settings.proofs.setting.choose.Goals as goal

pub returns-in_default-parse-2 : goal.returns-in_default-parse-2
returns-in_default-parse-2 c =
    ((c.in-Some.detection, search rules), (c.in-Ok.table, search rules), search rules, search rules)
