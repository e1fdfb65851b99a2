-- Steps of the search for the nearest filter.
use Rattle.std.proofs.Common.{◌≡◌, ◌⊎◌, ◌++◌, inl, inr, ℕ, zero, suc, ◌+◌, ◌<◌, ◌≤◌, List, [], ◌∷◌, Option, Some, None, length, slice_get, map, option_map, refl, sym, ap, ◌∙◌, subst, arith}
use Rattle.std.specs.Option.{option_and_then}
use Rattle.std.proofs.lemmas.Option.{slice_get-map}
use Rattle.ir_arena.specs.found.Arenas.{value_at}
use Rattle.ir_arena.specs.declared.span.Span.{Span}
use Rattle.ir_items.specs.found.GlobalView.{values_of}
use Rattle.ir_kinds.specs.declared.diagnostics.Severity.{Severity}
use Rattle.ir_kinds.specs.declared.diagnostics.StandardFilterableTriggeringRule.{StandardFilterableTriggeringRule}
use Rattle.ir_items.specs.judged.GlobalPlain.{PlainFilterNode, standard}
use Rattle.ir_items.specs.found.Filters.{ParentsPrecede}
use Rattle.ir_kinds.specs.declared.diagnostics.StandardFilterableTriggeringRule.TheVariants.{DerivativeUniformity}
use Rattle.spec_expressions.specs.judged.Severity.{FilterChain, IsNearest}
use Rattle.typing_uniformity.specs.Nearest.{AreNearest}

-- the item at a handle, as a mathematical value
pub plain_at : {T P : Type 0} → (view : T → P) (entries : List (T × Span)) (handle : ℕ) (item : T)
    → Some item ≡ value_at entries handle → slice_get (map view (values_of entries)) handle ≡ Some (view item)
plain_at {T} {P} view entries handle item e =
    slice_get-map view (values_of entries) handle
    ∙ ap (option_map view) (slice_get-map (λ (x : T × Span). x.0) entries handle ∙ sym e)

-- the number of steps that the search can still take
abbrev pub ahead : Option ℕ → ℕ
ahead None = 0
ahead (Some handle) = handle + 1

-- the parent of a handle, if any, has a smaller index
pub ahead_before : (o : Option ℕ) (handle : ℕ) → ((place : ℕ) → o ≡ Some place → place < handle) → ahead o ≤ handle
ahead_before None handle before = omega arith
ahead_before (Some place) handle before = let h : place < handle = before place refl in omega arith

abbrev Trail : List PlainFilterNode → Option ℕ → Type 0
Trail nodes start = (trail : List PlainFilterNode) × FilterChain nodes start trail

-- every handle has a chain of parents
trail_at : (nodes : List PlainFilterNode) → ParentsPrecede nodes → (handle : ℕ) (o : Option PlainFilterNode) → slice_get nodes handle ≡ o → ((node : PlainFilterNode) → ahead node.parent ≤ handle → Trail nodes node.parent) → Trail nodes (Some handle)
trail_at nodes precede handle None e rest = ([], e)
trail_at nodes precede handle (Some node) e rest =
    let up : ahead node.parent ≤ handle = ahead_before node.parent handle (λ p is. precede handle p node e is) in
    let more = rest node up in (node ∷ more.0, (e, more.1))

trail_from : (nodes : List PlainFilterNode) → ParentsPrecede nodes → (bound : ℕ) (start : Option ℕ) → ahead start ≤ bound → Trail nodes start
trail_from nodes precede bound None h = ([], refl)
trail_from nodes precede zero (Some handle) h = absurd (omega arith)
trail_from nodes precede (suc bound) (Some handle) h =
    trail_at nodes precede handle (slice_get nodes handle) refl (λ node up. trail_from nodes precede bound node.parent (omega arith))

-- a node for the rule ends the search
pub found : (nodes : List PlainFilterNode) → ParentsPrecede nodes → (handle : ℕ) (node : PlainFilterNode) (rule : StandardFilterableTriggeringRule)
    → slice_get nodes handle ≡ Some node → node.rule ≡ standard rule → IsNearest nodes (Some handle) rule (Some node.severity)
found nodes precede handle node rule e h =
    let up : ahead node.parent ≤ handle = ahead_before node.parent handle (λ p is. precede handle p node e is) in
    let rest = trail_from nodes precede handle node.parent up in
    (node ∷ rest.0, (e, rest.1), inl (h, refl))

-- another node continues at its parent
pub passed : (nodes : List PlainFilterNode) (handle : ℕ) (node : PlainFilterNode) (rule : StandardFilterableTriggeringRule) (s : Option Severity)
    → slice_get nodes handle ≡ Some node → (¬ (node.rule ≡ standard rule)) → IsNearest nodes node.parent rule s → IsNearest nodes (Some handle) rule s
passed nodes handle node rule s e other behind = (node ∷ behind.0, (e, behind.1), inr (other, behind.2))

-- the severity at a node is its own, or that of its parent
pub own_or_behind : (nodes : List PlainFilterNode) → ParentsPrecede nodes → (handle : ℕ) (node : PlainFilterNode) (behind s : Option Severity) → slice_get nodes handle ≡ Some node → IsNearest nodes node.parent DerivativeUniformity behind
    → (node.rule ≡ standard DerivativeUniformity) × (s ≡ Some node.severity) ⊎ (¬ (node.rule ≡ standard DerivativeUniformity)) × (s ≡ behind) → IsNearest nodes (Some handle) DerivativeUniformity s
own_or_behind nodes precede handle node behind s e at (inl own) =
    subst (IsNearest nodes (Some handle) DerivativeUniformity) (sym own.1) (found nodes precede handle node DerivativeUniformity e own.0)
own_or_behind nodes precede handle node behind s e at (inr other) =
    subst (IsNearest nodes (Some handle) DerivativeUniformity) (sym other.1) (passed nodes handle node DerivativeUniformity behind e other.0 at)

-- the element of a list to which one more was appended
last_or_before : {X : Type 0} (xs : List X) (x y : X) (k : ℕ) → slice_get (xs ++ x ∷ []) k ≡ Some y → (slice_get xs k ≡ Some y) ⊎ ((k ≡ length xs) × (x ≡ y))
last_or_before [] x y zero e = inr (refl, cc (e))
last_or_before [] x y (suc k) e = absurd (cc (e))
last_or_before (z ∷ xs) x y zero e = inl e
last_or_before (z ∷ xs) x y (suc k) e = elim (last_or_before xs x y k e) [ inl l ↦ inl l | inr r ↦ inr (ap suc r.0, r.1) ]

one_longer : (known : List (Option Severity)) (o : Option Severity) → length (known ++ o ∷ []) ≡ length known + 1
one_longer [] o = refl
one_longer (k ∷ known) o = let e = one_longer known o in omega (arith, e)

behind_all : (nodes : List PlainFilterNode) (known : List (Option Severity)) (o : Option Severity) → AreNearest nodes known → IsNearest nodes (Some (length known)) DerivativeUniformity o → AreNearest nodes (known ++ o ∷ [])
behind_all nodes known o are is = λ handle found at. elim (last_or_before known o found handle at) [
  | inl before ↦ are handle found before
  | inr last ↦ subst (λ k. IsNearest nodes (Some k) DerivativeUniformity found) (sym last.0) (subst (IsNearest nodes (Some (length known)) DerivativeUniformity) last.1 is)
]

-- one more node of known severity
pub one_more : (nodes : List PlainFilterNode) (known : List (Option Severity)) (o : Option Severity) (more : List (Option Severity)) (place : ℕ) → more ≡ known ++ o ∷ [] → length known ≡ place → AreNearest nodes known
    → IsNearest nodes (Some place) DerivativeUniformity o → (length more ≡ place + 1) × AreNearest nodes more
one_more nodes known o more place pushed many are is = (
  ap length pushed ∙ (one_longer known o ∙ ap (λ n. n + 1) many),
  subst (AreNearest nodes) (sym pushed) (behind_all nodes known o are (subst (λ k. IsNearest nodes (Some k) DerivativeUniformity o) (sym many) is)),
)

-- no node is known
pub nothing_known : (nodes : List PlainFilterNode) → AreNearest nodes []
nothing_known nodes = λ handle found at. absurd (cc (at))
