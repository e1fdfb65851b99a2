-- A path of filters and the severity on it are unique; and a step along a path.
use Rattle.std.proofs.Common.{◌≡◌, inl, inr, ℕ, zero, suc, ◌+◌, ◌<◌, ◌≤◌, List, [], ◌∷◌, Option, Some, None, length, slice_get, refl, sym, subst, ◌∙◌, arith}
use Rattle.std.specs.Option.{option_and_then}
use Rattle.std.proofs.lemmas.Option.{slice_get_within}
use Rattle.ir_kinds.specs.declared.diagnostics.Severity.{Severity}
use Rattle.ir_kinds.specs.declared.diagnostics.StandardFilterableTriggeringRule.{StandardFilterableTriggeringRule}
use Rattle.ir_items.specs.judged.GlobalPlain.{PlainFilterNode, standard}
use Rattle.ir_items.proofs.Places.{item_at}
use Rattle.ir_items.specs.found.Filters.{ParentsPrecede, IsPath, IsNearest, HasSeverity, OneSeverity}

pub one_path : (nodes : List PlainFilterNode) (start : Option ℕ) (p q : List PlainFilterNode) → IsPath nodes start p → IsPath nodes start q → p ≡ q
one_path nodes start [] [] a b = refl
one_path nodes start [] (n ∷ q) a b =
    let e : None ≡ Some n = subst (λ s. option_and_then (slice_get nodes) s ≡ Some n) a b.0 in cc
one_path nodes start (n ∷ p) [] a b =
    let e : None ≡ Some n = subst (λ s. option_and_then (slice_get nodes) s ≡ Some n) b a.0 in cc
one_path nodes start (n ∷ p) (m ∷ q) a b =
    let same : m ≡ n = (let x = a.0 in let y = b.0 in cc) in
    let rest : p ≡ q = one_path nodes n.parent p q a.1 (subst (λ (x : PlainFilterNode). IsPath nodes x.parent q) same b.1) in
    cc

pub one_nearest : (rule : StandardFilterableTriggeringRule) (path : List PlainFilterNode) (s t : Severity) → IsNearest rule path s → IsNearest rule path t → s ≡ t
one_nearest rule [] s t a b = a ∙ sym b
one_nearest rule (n ∷ rest) s t (inl a) (inl b) = a.1 ∙ sym b.1
one_nearest rule (n ∷ rest) s t (inl a) (inr b) = absurd (b.0 a.0)
one_nearest rule (n ∷ rest) s t (inr a) (inl b) = absurd (a.0 b.0)
one_nearest rule (n ∷ rest) s t (inr a) (inr b) = one_nearest rule rest s t a.1 b.1

pub one_severity : OneSeverity
one_severity nodes start rule s t a b =
    one_nearest rule a.0 s t a.2 (subst (λ p. IsNearest rule p t) (one_path nodes start b.0 a.0 b.1 a.1) b.2)

-- how many steps a walk can still take
abbrev pub ahead : Option ℕ → ℕ
ahead None = 0
ahead (Some handle) = handle + 1

-- an earlier handle can take fewer steps
pub ahead_before : (o : Option ℕ) (handle : ℕ) → ((place : ℕ) → o ≡ Some place → place < handle) → ahead o ≤ handle
ahead_before None handle before = omega arith
ahead_before (Some place) handle before = let h : place < handle = before place refl in omega arith

-- there is a path from every node
pub path_from : (nodes : List PlainFilterNode) → ParentsPrecede nodes → (bound : ℕ) (start : Option ℕ) → ahead start ≤ bound → bound ≤ length nodes → (path : List PlainFilterNode) × IsPath nodes start path
path_from nodes precede bound None h within = ([], refl)
path_from nodes precede zero (Some handle) h within = absurd (omega arith)
path_from nodes precede (suc bound) (Some handle) h within =
    let n = item_at nodes handle (omega arith) in
    let up : ahead n.0.parent ≤ handle = ahead_before n.0.parent handle (λ p e. precede handle p n.0 n.1 e) in
    let rest = path_from nodes precede bound n.0.parent (omega arith) (omega arith) in
    (n.0 ∷ rest.0, (n.1, rest.1))

-- a node with the rule ends the search
pub found : (nodes : List PlainFilterNode) → ParentsPrecede nodes → (handle : ℕ) (node : PlainFilterNode) (rule : StandardFilterableTriggeringRule)
    → slice_get nodes handle ≡ Some node → node.rule ≡ standard rule → HasSeverity nodes (Some handle) rule node.severity
found nodes precede handle node rule e h =
    let inside : handle < length nodes = slice_get_within nodes handle node e in
    let up : ahead node.parent ≤ handle = ahead_before node.parent handle (λ p is. precede handle p node e is) in
    let rest = path_from nodes precede handle node.parent up (omega arith) in
    (node ∷ rest.0, (e, rest.1), inl (h, refl))

-- and any other continues with its parent
pub passed : (nodes : List PlainFilterNode) (handle : ℕ) (node : PlainFilterNode) (rule : StandardFilterableTriggeringRule) (s : Severity)
    → slice_get nodes handle ≡ Some node → (¬ (node.rule ≡ standard rule)) → HasSeverity nodes node.parent rule s → HasSeverity nodes (Some handle) rule s
passed nodes handle node rule s e other behind = (node ∷ behind.0, (e, behind.1), inr (other, behind.2))
