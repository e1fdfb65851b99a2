-- The broken rules of `Select`.
use Rattle.std.specs.Prelude.{◌≡◌, ◌≢◌, IsSomeAnd}
use Rattle.typing_forms.specs.declared.form.Form.{Form}
use Rattle.spec_statements.specs.judged.Selections.{ChoosesFrom}
use Rattle.spec_statements.specs.judged.Shapes.{shaped_of, IsMadeOf, IsScalarOrVector, AnyShape, AnyKind, IsBool}
use Rattle.check_causes.specs.declared.selections.SelectCause.{SelectCause}
use Rattle.check_causes.specs.declared.selections.SelectCause.TheVariants.{Differ, NoValue, NoCondition, Shape}

-- a condition of this shape selects between values of that shape
abbrev pub Chooses : (condition value : Form) → Type 0
Chooses condition value = IsSomeAnd (shaped_of condition) (λ x. IsSomeAnd (shaped_of value) (λ y. ChoosesFrom x.shape y.shape))

abbrev pub BrokenSelect : (condition accept reject : Form) → SelectCause → Type 0
BrokenSelect condition accept reject (Differ one other) = (one ≡ accept) × (other ≡ reject) × (accept ≢ reject)
BrokenSelect condition accept reject (NoValue given) = (given ≡ accept) × ¬ IsMadeOf IsScalarOrVector AnyKind accept
BrokenSelect condition accept reject (NoCondition given) = (given ≡ condition) × ¬ IsMadeOf AnyShape IsBool condition
BrokenSelect condition accept reject (Shape given value) = (given ≡ condition) × (value ≡ accept) × ¬ Chooses condition accept
