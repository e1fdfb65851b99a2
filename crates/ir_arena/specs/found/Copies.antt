-- Views of an arena's entries, with their spans.
use Rattle.std.specs.Prelude.{◌≡◌, Bool}
use Rattle.ir_arena.specs.declared.span.Span.{Span}

-- the view of an entry's value, with its span
abbrev pub entry_of : {T View : Type 0} → (T → View) → T × Span → View × Span
entry_of view entry = (view entry.0, entry.1)

-- eq respects the views: values with equal views compare equal
abbrev pub ComparesByView : {T View : Type 0} → (T → View) → (T → T → Bool) → Type 0
ComparesByView {T} view eq = (a b x y : T) → view a ≡ view b → view x ≡ view y → eq a x ≡ eq b y
