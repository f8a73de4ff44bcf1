use native.Mathlib.Omega.{arith}
use Rattle.page_form.proofs.Sections.{few_cells}
use Rattle.page.proofs.Amended.is_listed.Goals as goal

pub overflow_add-icu : goal.overflow_add-icu
overflow_add-icu c = omega (arith, few_cells c.args.self.kind)
