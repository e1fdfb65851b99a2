-- Type flags at a handle that may be out of range.
use Rattle.std.proofs.Common.{◌≡◌, ◌<◌, ◌≤◌, ◌↔◌, ◌==◌, ℕ, zero, suc, List, [], ◌∷◌, Some, None, Bool, false, IsTrue, length, get_or, slice_get, option_map, bit_and, true≢false, refl, sym, ap, subst, ◌∙◌, arith, rules, tests}
use Rattle.std.proofs.lemmas.Option.{slice_get-get_or}
use Rattle.ir_types.specs.judged.Plain.{PlainType}
use Rattle.typing_layout.specs.judged.Flags.{TypeFlag, bit, HasFlag, Data, Sized, Constructible}
use Rattle.module_type_checks.specs.Known.{AreInfos}
use Rattle.typing_layout.specs.declared.info.TypeInfo.{TypeInfo}
use Rattle.typing_layout.specs.judged.Tree.{no_type}
use Rattle.typing_layout.specs.judged.View.{type_tree, tree_along, tree_found}

past : {A : Type 0} (xs : List A) (h : ℕ) → length xs ≤ h → slice_get xs h ≡ None
past [] h le = refl
past (x ∷ xs) zero le = absurd (omega (arith, le))
past (x ∷ xs) (suc h) le = past xs h (omega (arith, le))

-- past the last type there is none
pub none_there : (types : List PlainType) (h : ℕ) → length types ≤ h → type_tree types h ≡ no_type
unfolding type_tree tree_along
none_there types h le = ap (λ t. tree_found (tree_along types h) (option_map (λ (t : PlainType). t.inner) t)) (past types h le)

pub none_stored : (types : List PlainType) (h : ℕ) → length types ≤ h → HasFlag Data (type_tree types h) → ⊥
none_stored types h le has = true≢false (sym (subst (HasFlag Data) (none_there types h le) has))

pub none_sized : (types : List PlainType) (h : ℕ) → length types ≤ h → HasFlag Sized (type_tree types h) → ⊥
none_sized types h le has = true≢false (sym (subst (HasFlag Sized) (none_there types h le) has))

pub none_composed : (types : List PlainType) (h : ℕ) → length types ≤ h → HasFlag Constructible (type_tree types h) → ⊥
none_composed types h le has = true≢false (sym (subst (HasFlag Constructible) (none_there types h le) has))

-- a flag test of a `TypeInfo` is one of the type
test_is : (a b : ℕ) (r : Bool) → r ≡ (a == b) → IsTrue r ↔ (a ≡ b)
test_is a b r e = (λ t. search (rules, tests), λ q. search (rules, tests))

pub known_flag : (types : List PlainType) (infos : List TypeInfo) (h k flag : ℕ) (info : TypeInfo) (f : TypeFlag) (r : Bool) → AreInfos types infos → k < length infos → info ≡ get_or infos k info → k ≡ h
    → r ≡ (bit_and info.flags.0 flag == flag) → flag ≡ bit f → IsTrue r ↔ HasFlag f (type_tree types h)
known_flag types infos h k flag info f r told lt at index is same =
    let less : h < length infos = omega (arith, lt, index) in
    let here : info ≡ get_or infos h info = at ∙ ap (λ n. get_or infos n info) index in
    let found : slice_get infos h ≡ Some info = slice_get-get_or infos h info less ∙ ap Some (sym here) in
    let flags = (told.each h info found).flags f in
    let test : IsTrue r ↔ (bit_and info.flags.0 (bit f) ≡ bit f) = subst (λ n. IsTrue r ↔ (bit_and info.flags.0 n ≡ n)) same (test_is (bit_and info.flags.0 flag) flag r is) in
    (λ t. flags.0 (test.0 t), λ has. test.1 (flags.1 has))

pub absent_flag : (T : Type 0) → (T → ⊥) → IsTrue false ↔ T
absent_flag T none = (λ t. absurd (true≢false (sym t)), λ has. absurd (none has))
