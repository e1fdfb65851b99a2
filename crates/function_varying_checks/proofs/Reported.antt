-- Whether values of a type that may not be there go between stages.
use Rattle.std.proofs.Common.{◌≡◌, ◌<◌, ◌≤◌, ◌↔◌, ◌==◌, ℕ, zero, suc, List, [], ◌∷◌, Some, None, Bool, false, IsTrue, length, get_or, slice_get, option_map, bit_and, true≢false, refl, sym, ap, subst, ◌∙◌, arith, rules, tests}
use Rattle.std.proofs.lemmas.Option.{slice_get-get_or}
use Rattle.ir_types.specs.judged.Plain.{PlainType}
use Rattle.typing_layout.specs.judged.Flags.{HasFlag, IoShareable}
use Rattle.typing_layout.specs.judged.Tree.{no_type}
use Rattle.typing_layout.specs.judged.View.{type_tree, tree_along, tree_found}
use Rattle.module_type_checks.specs.Known.{AreInfos}
use Rattle.typing_layout.specs.declared.info.TypeInfo.{TypeInfo}

past : {A : Type 0} (xs : List A) (h : ℕ) → length xs ≤ h → slice_get xs h ≡ None
past [] h le = refl
past (x ∷ xs) zero le = absurd (omega (arith, le))
past (x ∷ xs) (suc h) le = past xs h (omega (arith, le))

-- past the last type there is none
none_there : (types : List PlainType) (h : ℕ) → length types ≤ h → type_tree types h ≡ no_type
unfolding type_tree tree_along
none_there types h le = ap (λ t. tree_found (tree_along types h) (option_map (λ (t : PlainType). t.inner) t)) (past types h le)

pub none_shared : (types : List PlainType) (h : ℕ) → length types ≤ h → IsTrue false ↔ HasFlag IoShareable (type_tree types h)
none_shared types h le = (
  λ t. absurd (true≢false (sym t)),
  λ has. absurd (true≢false (sym (subst (HasFlag IoShareable) (none_there types h le) has))),
)

test_is : (a b : ℕ) (r : Bool) → r ≡ (a == b) → IsTrue r ↔ (a ≡ b)
test_is a b r e = (λ t. search (rules, tests), λ q. search (rules, tests))

-- the test of the flag in the info of a type is one of the type
pub known_shared : (types : List PlainType) (infos : List TypeInfo) (h k : ℕ) (info : TypeInfo) (r : Bool) → AreInfos types infos → k < length infos → info ≡ get_or infos k info → k ≡ h
    → r ≡ (bit_and info.flags.0 8 == 8) → IsTrue r ↔ HasFlag IoShareable (type_tree types h)
known_shared types infos h k info r told lt at index is =
    let less : h < length infos = omega (arith, lt, index) in
    let here : info ≡ get_or infos h info = at ∙ ap (λ n. get_or infos n info) index in
    let found : slice_get infos h ≡ Some info = slice_get-get_or infos h info less ∙ ap Some (sym here) in
    let flags = (told.each h info found).flags IoShareable in
    let test = test_is (bit_and info.flags.0 8) 8 r is in
    (λ t. flags.0 (test.0 t), λ has. test.1 (flags.1 has))
