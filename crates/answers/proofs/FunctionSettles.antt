-- A promise that says what is answered as a function of what was given settles the answer. Assumes nothing.
use mathlib.Core.Path.{◌≡◌, sym, ◌∙◌}

pub function_settles : {A B : Type 0} (f : A → B) (x : A) {r s : B} → r ≡ f x → s ≡ f x → r ≡ s
function_settles f x p q = p ∙ sym q
