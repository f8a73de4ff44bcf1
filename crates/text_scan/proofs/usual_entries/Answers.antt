use Rattle.std.proofs.Common.{rules}
use Rattle.text_scan.specs.Scanning.{usually}
use Rattle.text_scan.proofs.Laws.{table_made}
use Rattle.text_scan.proofs.usual_entries.Goals as goal

pub returns : goal.returns
returns c = table_made _ _ _ _ usually c.from_fn.ensures.items (λ p i y q k. search rules)
