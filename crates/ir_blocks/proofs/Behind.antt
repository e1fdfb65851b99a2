-- Appending to a list, through a view.
use Rattle.std.proofs.Common.{◌≡◌, List, [], ◌∷◌, ◌++◌, map, Result, Ok, Err, OnOk, None, rules, ap, ◌∙◌}
use Rattle.std.proofs.lemmas.List.{map-append}
use Rattle.ir_blocks.specs.judged.Plain.{return}
use Rattle.ir_blocks.specs.found.Spans.{no_block}
use Rattle.ir_blocks.specs.found.View.{statement_view, statement_spans}
use Rattle.ir_blocks.specs.declared.statements.Statement.{the_lemmas}
use Rattle.ir_blocks.specs.declared.statements.Statement.TheVariants.{Return}

pub seen_behind : {A B : Type 0} (f : A → B) (xs ys : List A) (x : A) (y : B) → f x ≡ y → ys ≡ xs ++ x ∷ [] → map f ys ≡ map f xs ++ y ∷ []
seen_behind f xs ys x y seen e = ap (map f) e ∙ (map-append f xs (x ∷ []) ∙ ap (λ z. map f xs ++ z ∷ []) seen)

-- the same if it may fail
pub seen_behind_if : {A B T E : Type 0} (f : A → B) (r : Result T E) (xs ys : List A) (x : A) (y : B) → f x ≡ y → OnOk r (ys ≡ xs ++ x ∷ []) → OnOk r (map f ys ≡ map f xs ++ y ∷ [])
seen_behind_if f (Ok t) xs ys x y seen e = seen_behind f xs ys x y seen e
seen_behind_if f (Err e) xs ys x y seen h = tt

pub return_view : statement_view (Return None) ≡ return None
return_view = search (rules, the_lemmas)

pub return_spans : statement_spans (Return None) ≡ no_block
return_spans = search (rules, the_lemmas)
