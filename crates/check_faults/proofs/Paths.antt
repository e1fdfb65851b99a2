-- One more step of a path as text.
use Rattle.std.proofs.Common.{◌≡◌, ◌∙◌, ◌++◌, ℕ, List, ◌∷◌, codes, refl, subst, sym}
use Rattle.std.proofs.lemmas.List.{append_assoc}
use Rattle.std.proofs.lemmas.Grind.{put_two}
use Rattle.std.specs.Fmt.{HasWritten, IsPlainFormatter}
use Rattle.std.specs.declared.fmt.Formatter.{Formatter}
use Rattle.check_faults.specs.declared.parts.Part.{Part}
use Rattle.check_faults.specs.Paths.{step_text, steps_text}
use Rattle.check_faults.specs.Tables.{name_inside, part_inside}

abbrev pub IsWritten : {W : Type 0} (took : W → List ℕ → W → Type 0) → (f g : Formatter W) (rest whole : List ℕ) → Type 0
IsWritten took f g rest whole = IsPlainFormatter f → (done : List ℕ) × HasWritten took f done g × (done ++ rest ≡ whole)

-- after the step is written, the text of the remaining steps is left
pub step_more : {W : Type 0} (took : W → List ℕ → W → Type 0) → (f g h : Formatter W) (dot whole : List ℕ) (part next : Part) (steps : List ℕ) (i : ℕ) (rest : List ℕ) → steps ≡ i ∷ rest → next ≡ part_inside part i
    → IsWritten took f g (steps_text dot part steps) whole → (IsPlainFormatter g → HasWritten took g (step_text dot i (name_inside part i)) h) → IsWritten took f h (steps_text (codes ".") next rest) whole
step_more took f g h dot whole part next steps i rest first is before wrote plain =
    let b = before plain in
    let step : List ℕ = step_text dot i (name_inside part i) in
    let left : List ℕ = steps_text (codes ".") (part_inside part i) rest in
    let w = wrote (HasWritten.plain b.1) in
    (b.0 ++ step, put_two took f g h b.0 step (b.0 ++ step) b.1 w refl, subst (λ p. b.0 ++ step ++ steps_text (codes ".") p rest ≡ whole) (sym is) (append_assoc b.0 step left ∙ subst (λ s. b.0 ++ steps_text dot part s ≡ whole) first b.2))
