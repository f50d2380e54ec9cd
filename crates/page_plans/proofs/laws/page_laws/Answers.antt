use Rattle.page_plans.proofs.Pages.{patches_are_of_pages, looks_lead_on}
use Rattle.page_plans.proofs.laws.page_laws.Goals as goal

pub returns-clause-patches : goal.returns-clause-patches
returns-clause-patches c = patches_are_of_pages

pub returns-clause-looks : goal.returns-clause-looks
returns-clause-looks c = looks_lead_on
