-- Every module with valid handles has a report (as a double negation).
use Rattle.std.proofs.Common.{◌≡◌, ◌<◌, ℕ, zero, suc, ◌+◌, List, [], ◌∷◌, ◌++◌, length, Option, Some, None, slice_get, refl, ap, subst, ◌∙◌, arith}
use Rattle.std.specs.Prelude.{flat_map, slice_index_or}
use Rattle.std.proofs.lemmas.Option.{same_Some}
use Rattle.spec_expressions.specs.declared.global_use.GlobalUse.{GlobalUse}
use Rattle.spec_expressions.specs.declared.sampling.GlobalOrArgument.{GlobalOrArgument}
use Rattle.spec_expressions.specs.declared.sampling.GlobalOrArgument.TheVariants.{Global, Argument}
use Rattle.ir_types.specs.judged.ExpressionPlain.{PlainExpression, plain}
use Rattle.ir_types.specs.declared.expressions.Expression.TheVariants as x
use Rattle.ir_items.specs.judged.Plain.{PlainEntry, PlainFunction, PlainModule}
use Rattle.spec_expressions.specs.judged.CallChains.{base_denotes, denotes, global_or_argument, Step, IsChain, meaning_at_start, seen_through, HasUse, HasPair}
use Rattle.spec_expressions.specs.found.Arguments.{argument_means}
use Rattle.spec_expressions.specs.judged.Summaries.{no_use}
use Rattle.spec_expressions.specs.judged.FunctionHandles.{HandlesInRange}
use Rattle.spec_expressions.specs.judged.ModuleHandles.{HandlesOK}
use Rattle.spec_expressions.specs.judged.References.{computed, item, expression_names}
use Rattle.spec_expressions.specs.declared.target.Target.TheVariants as target
use Rattle.judgement.proofs.Numbers.{HasBits, some_number, HasItems, some_list}
use Rattle.judgement.proofs.Classical.{Holds, surely, then}
use Rattle.judgement.proofs.FourKinds.{use_kind}
use Rattle.judgement.proofs.Ordered.{some_ordered}
use Rattle.judgement.specs.found.ReportLaws.{SomeReport}
use Rattle.judgement.specs.judged.Lines.{buffers, entry_lines}
use Rattle.judgement.specs.judged.Reports.{AreUses, ArePairs, IsEntryReport, IsReport}

-- ---- sampled pairs are of existing global variables

module _ (m : PlainModule) (f : PlainFunction) (ok : HandlesInRange m f) where
  variable_within : (h v g : ℕ) → slice_get f.expressions h ≡ Some (plain (x.GlobalVariable v)) → Some (Global v) ≡ Some (Global g) → g < length m.globals
  variable_within h v g at same = subst (λ n. n < length m.globals) (let e : v ≡ g = cc (same) in e) (ok (computed h) (item (target.GlobalVariable v)) (expression_names at refl))

  base_within : (h g : ℕ) (o : Option PlainExpression) → slice_get f.expressions h ≡ o → base_denotes o ≡ Some (Global g) → g < length m.globals
  base_within h g (Some (plain (x.GlobalVariable v))) at e = variable_within h v g at e
  base_within h g _ at e = absurd (let y = e in cc)

  occurs_within : (h g : ℕ) (o : Option PlainExpression) → slice_get f.expressions h ≡ o → denotes f.expressions o ≡ Some (Global g) → g < length m.globals
  occurs_within h g (Some (plain (x.GlobalVariable v))) at e = variable_within h v g at e
  occurs_within h g (Some (plain (x.FunctionArgument number))) at e = absurd (let y = e in cc)
  occurs_within h g (Some (plain (x.Access base index))) at e = base_within base g (slice_get f.expressions base) refl e
  occurs_within h g (Some (plain (x.AccessIndex base index))) at e = base_within base g (slice_get f.expressions base) refl e
  occurs_within h g _ at e = absurd (let y = e in cc)

  place_within : (h g : ℕ) → global_or_argument f.expressions h ≡ Some (Global g) → g < length m.globals
  place_within h g e = occurs_within h g (slice_get f.expressions h) refl e

-- if the caller's sampled expressions denote existing variables, so do those of its callees, seen from the caller
module _ (m : PlainModule) (meaning : ℕ → Option GlobalOrArgument) (within : (h g : ℕ) → meaning h ≡ Some (Global g) → g < length m.globals) where
  argument_within : (g : ℕ) (o : Option ℕ) → argument_means meaning o ≡ Some (Global g) → g < length m.globals
  argument_within g None e = absurd (let y = e in cc)
  argument_within g (Some h) e = within h g e

  seen_within : (s : Step) → HandlesInRange m s.function → (h g : ℕ) (o : Option GlobalOrArgument) → global_or_argument s.function.expressions h ≡ o → seen_through meaning s.arguments o ≡ Some (Global g) → g < length m.globals
  seen_within s there h g None at e = absurd (let y = e in cc)
  seen_within s there h g (Some (Global v)) at e = place_within m s.function there h g (at ∙ e)
  seen_within s there h g (Some (Argument number)) at e = argument_within g (slice_get s.arguments number) e

module _ (m : PlainModule) (handles : HandlesOK m) (f : PlainFunction) (ok : HandlesInRange m f) where
  bound_within : (chain : List Step) → IsChain m f chain → (h g : ℕ) → meaning_at_start f chain h ≡ Some (Global g) → g < length m.globals
  bound_within [] is h g e = place_within m f ok h g e
  bound_within (s ∷ chain) is h g e =
      seen_within m (meaning_at_start f chain) (λ i k. bound_within chain is.1 i k) s (handles.functions is.0.callee s.function is.0.found) h g (global_or_argument s.function.expressions h) refl e

  pair_within : (p : ℕ × ℕ) → HasPair m f (Global p.0, Global p.1) → (p.0 < length m.globals) × (p.1 < length m.globals)
  pair_within p h = (bound_within h.chain h.is_chain h.sampled.image p.0 h.sampled.image_means, bound_within h.chain h.is_chain h.sampled.sampler p.1 h.sampled.sampler_means)

-- ---- an entry point

module _ (m : PlainModule) (handles : HandlesOK m) (number : ℕ) (e : PlainEntry) (at : slice_get m.entries number ≡ Some e) where
  some_use : (g : ℕ) → Holds ((u : GlobalUse) × HasBits (HasUse m e.function g) u.0)
  some_use g = then (some_number 4 (HasUse m e.function g) (λ k h. use_kind m e.function g k h)) (λ n. surely (record { 0 = n.0 }, n.1))

  uses_by : (us : List GlobalUse) → HasItems no_use (λ g u. HasBits (HasUse m e.function g) u.0) 0 (length m.globals) us → AreUses m e us
  uses_by us h = record { many = h.many; exact = λ g k lt own. (subst (λ n. HasBits (HasUse m e.function n) (slice_index_or us g no_use).0) (let z : 0 + g ≡ g = omega arith in z) (h.each g lt)).exact k }

  some_uses : Holds ((us : List GlobalUse) × AreUses m e us)
  some_uses = then (some_list no_use (λ g u. HasBits (HasUse m e.function g) u.0) (length m.globals) 0 some_use) (λ found. surely (found.0, uses_by found.0 found.1))

  abbrev IsPair : ℕ × ℕ → Type 0
  IsPair p = HasPair m e.function (Global p.0, Global p.1)

  some_pairs : Holds ((ps : List (ℕ × ℕ)) × ArePairs m e ps)
  some_pairs =
      then (some_ordered IsPair (length m.globals) (pair_within m handles e.function (handles.entries number e at)))
      (λ found. surely (found.0, record { ordered = found.1.0; exact = λ image sampler. found.1.1 (image, sampler) }))

  lines_by : (us : List GlobalUse) (ps : List (ℕ × ℕ)) → AreUses m e us → ArePairs m e ps → (lines : List ℕ) × IsEntryReport m number e lines
  lines_by us ps a b = (entry_lines number e us ps, record { uses = us; pairs = ps; are_uses = a; are_pairs = b; told = refl })

  some_lines : Holds ((lines : List ℕ) × IsEntryReport m number e lines)
  some_lines = then some_uses (λ us. then some_pairs (λ ps. surely (lines_by us.0 ps.0 us.1 ps.1)))

-- ---- a module

-- the entry points of a module from an index on
abbrev AreThere : PlainModule → (first : ℕ) → List PlainEntry → Type 0
AreThere m first es = (i : ℕ) (e : PlainEntry) → slice_get es i ≡ Some e → slice_get m.entries (first + i) ≡ Some e

record ReportsFrom (m : PlainModule) (first : ℕ) (es : List PlainEntry) (told : List (List ℕ)) : Type 0 where
  pub many : length told ≡ length es
  pub each : (i : ℕ) (e : PlainEntry) (lines : List ℕ) → slice_get es i ≡ Some e → slice_get told i ≡ Some lines → IsEntryReport m (first + i) e lines

module _ (m : PlainModule) where
  first_reported : (first : ℕ) (e : PlainEntry) (es : List PlainEntry) (lines : List ℕ) (told : List (List ℕ)) → IsEntryReport m first e lines → ReportsFrom m (suc first) es told
      → (i : ℕ) (d : PlainEntry) (ls : List ℕ) → slice_get (e ∷ es) i ≡ Some d → slice_get (lines ∷ told) i ≡ Some ls → IsEntryReport m (first + i) d ls
  first_reported first e es lines told is rest zero d ls a b =
      subst (λ n. IsEntryReport m n d ls) (let z : first ≡ first + 0 = omega arith in z) (subst (λ y. IsEntryReport m first y ls) (same_Some _ _ a) (subst (λ y. IsEntryReport m first e y) (same_Some _ _ b) is))
  first_reported first e es lines told is rest (suc i) d ls a b = subst (λ n. IsEntryReport m n d ls) (let z : suc first + i ≡ first + suc i = omega arith in z) (rest.each i d ls a b)

  one_more : (first : ℕ) (e : PlainEntry) (es : List PlainEntry) → (lines : List ℕ) × IsEntryReport m first e lines → (told : List (List ℕ)) × ReportsFrom m (suc first) es told
      → (told : List (List ℕ)) × ReportsFrom m first (e ∷ es) told
  one_more first e es lines rest = (lines.0 ∷ rest.0, record { many = ap suc rest.1.many; each = first_reported first e es lines.0 rest.0 lines.1 rest.1 })

  some_entries : HandlesOK m → (first : ℕ) (es : List PlainEntry) → AreThere m first es → Holds ((told : List (List ℕ)) × ReportsFrom m first es told)
  some_entries handles first [] there = surely ([], record { many = refl; each = λ i e lines a b. absurd (let y = a in cc) })
  some_entries handles first (e ∷ es) there =
      let at : slice_get m.entries first ≡ Some e = subst (λ n. slice_get m.entries n ≡ Some e) (let z : first + 0 ≡ first = omega arith in z) (there 0 e refl) in
      let further : AreThere m (suc first) es = λ i d a. subst (λ n. slice_get m.entries n ≡ Some d) (let z : first + suc i ≡ suc first + i = omega arith in z) (there (suc i) d a) in
      then (some_lines m handles first e at) (λ lines. then (some_entries handles (suc first) es further) (λ rest. surely (one_more first e es lines rest)))

  report_by : (told : List (List ℕ)) → ReportsFrom m 0 m.entries told → IsReport m (buffers m ++ flat_map (λ lines. lines) told)
  report_by told r = record {
    entries = told;
    are_entries = record { many = r.many; each = λ number e lines a b. subst (λ n. IsEntryReport m n e lines) (let z : 0 + number ≡ number = omega arith in z) (r.each number e lines a b) };
    told = refl;
  }

  pub some_report_for : HandlesOK m → Holds ((text : List ℕ) × IsReport m text)
  some_report_for handles = then (some_entries handles 0 m.entries (λ i e a. subst (λ n. slice_get m.entries n ≡ Some e) (let z : i ≡ 0 + i = omega arith in z) a)) (λ found. surely (buffers m ++ flat_map (λ lines. lines) found.0, report_by found.0 found.1))

pub some_report : SomeReport
some_report m handles none = some_report_for m handles (λ found. none found.0 found.1)
