-- The success and the failure of a decoder, in terms of the encoding relation.
use Rattle.std.proofs.Common.{◌≡◌, ◌≢◌, ◌≤◌, Option, Result, Ok, Err, IfOk, IfErr, option_map, sym, ◌∙◌}
use Rattle.serde_json.specs.Data.{Data, depth}
use Rattle.document_forms.specs.found.Answers.{Answers}
use Rattle.document_forms.specs.found.Exact.{deepest, IsExact}
use Rattle.document_forms.specs.declared.error.ReadError.{ReadError}
use Rattle.document_forms.specs.declared.error.ReadError.TheVariants.{Memory}

pub answer_written : {T A : Type 0} {f : Data → Option A} {P : A → Data → Type 0} → IsExact f P → (view : T → A) (d : Data) (r : Result T ReadError)
    → Answers r (λ o. option_map view o ≡ f d) → IfOk r (λ x. P (view x) d)
answer_written exact view d (Ok x) h = exact.sound d (view x) (sym h)
answer_written exact view d (Err e) h = tt

pub answer_refused : {T A : Type 0} {f : Data → Option A} {P : A → Data → Type 0} → IsExact f P → (view : T → A) (d : Data) (r : Result T ReadError)
    → Answers r (λ o. option_map view o ≡ f d) → IfErr r (λ e. e ≢ Memory → depth d ≤ deepest → (x : A) → ¬ P x d)
answer_refused exact view d (Ok x) h = tt
answer_refused exact view d (Err e) h = λ n le x w. let a = h n ∙ exact.complete d x w le in absurd cc
