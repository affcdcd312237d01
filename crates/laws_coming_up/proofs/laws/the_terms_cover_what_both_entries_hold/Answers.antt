use Rattle.laws_coming_up.proofs.CoverLemmas.{covered_back, covered_there}
use Rattle.laws_coming_up.proofs.laws.the_terms_cover_what_both_entries_hold.Goals as goal

pub returns-clause-there : goal.returns-clause-there
returns-clause-there c = λ one other o terms agreed f. covered_there one other o terms agreed f

pub returns-clause-back : goal.returns-clause-back
returns-clause-back c = λ one other o terms agreed f. covered_back one other o terms agreed f
