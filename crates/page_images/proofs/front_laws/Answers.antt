use Rattle.page_images.proofs.Kept_fronts.{made, made_by_heap, step_front, all_front, is_stamped, all_whole, all_lrsn, all_are_stamped}
use Rattle.page_images.proofs.front_laws.Goals as goal

pub returns-clause-made : goal.returns-clause-made
returns-clause-made c = λ lrsn page id kind whole. made lrsn page id kind whole

pub returns-clause-made_by_heap : goal.returns-clause-made_by_heap
returns-clause-made_by_heap c = λ lrsn page id kind whole. made_by_heap lrsn page id kind whole

pub returns-clause-patch : goal.returns-clause-patch
returns-clause-patch c = λ lrsn page id kind p h past within. step_front lrsn page id kind p h past within

pub returns-clause-patches : goal.returns-clause-patches
returns-clause-patches c = λ lrsn page id kind ps h b. all_front lrsn page id kind ps h b

pub returns-clause-stamped : goal.returns-clause-stamped
returns-clause-stamped c = λ lrsn page whole pos lt. is_stamped lrsn page whole pos lt

pub returns-clause-all_whole : goal.returns-clause-all_whole
returns-clause-all_whole c = λ lrsn page ps whole w. all_whole lrsn page ps whole w

pub returns-clause-all_lrsn : goal.returns-clause-all_lrsn
returns-clause-all_lrsn c = λ lrsn page p ps whole w lt. all_lrsn lrsn page p ps whole w lt

pub returns-clause-all_stamped : goal.returns-clause-all_stamped
returns-clause-all_stamped c = λ lrsn page p ps whole w pos lt. all_are_stamped lrsn page p ps whole w pos lt
