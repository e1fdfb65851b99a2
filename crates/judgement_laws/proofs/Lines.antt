-- What the lines of an entry point list, and that they are in the report.
use Rattle.std.proofs.Common.{◌≡◌, ◌<◌, ◌⊎◌, inl, inr, ℕ, zero, suc, ◌+◌, List, [], ◌∷◌, ◌++◌, Bool, true, false, true≢false, ◌||◌, ◌&&◌, not, Option, Some, None, IsTrue, length, slice_get, refl, sym, ap, subst, arith, if◌then◌else◌}
use Rattle.std.specs.Prelude.{codes, decimal, flat_map, slice_index_or}
use Rattle.std.proofs.lemmas.Bool.{eqb-true}
use Rattle.std.proofs.lemmas.Option.{slice_get_within}
use Rattle.spec_expressions.specs.declared.global_use.GlobalUse.{GlobalUse}
use Rattle.ir_items.specs.judged.GlobalPlain.{PlainGlobal}
use Rattle.ir_items.specs.judged.Plain.{PlainEntry, PlainModule}
use Rattle.ir_types.specs.judged.Plain.{PlainType}
use Rattle.typing_rules.specs.judged.Laws.{IsAmong}
use Rattle.spec_expressions.specs.judged.Summaries.{no_use}
use Rattle.judgement_laws.proofs.Texts.{whole_end, whole_append, whole_if, whole_each, whole_flat, has_itself, has_left, has_right, has_each, has_flat}
use Rattle.spec_interface.specs.judged.Spaces.{effective_type}
use Rattle.typing_layout.specs.judged.Layout.{size, alignment}
use Rattle.typing_layout.specs.judged.View.{type_tree}
use Rattle.judgement_laws.specs.judged.Lines.{HasLines, use_line, ReportsGlobal, as_payload, as_mesh, as_used, LinesStand, EntriesAreReported, BuffersAreReported}
use Rattle.judgement_laws.specs.found.Whole.{AreWhole}
use Rattle.judgement.specs.judged.Lines.{each_from, is_buffer, buffer_line, buffer_of, buffers, is_at, is_own, own_line, is_used, use_words, global_line, pair_line, head_line, variable_lines, entry_lines}
use Rattle.spec_interface.specs.judged.Uses.{mesh_output}
use Rattle.judgement.specs.judged.Reports.{IsEntryReport}

-- ---- each line is whole

own_whole : (word : List ℕ) (own : Option ℕ) → AreWhole (own_line word own)
own_whole word None = inl refl
own_whole word (Some g) = whole_end (word ++ codes " " ++ decimal g)

head_whole : (number : ℕ) → AreWhole (head_line number)
head_whole number = whole_end (codes "entry " ++ decimal number)

global_whole : (e : PlainEntry) (number : ℕ) (kinds : GlobalUse) → AreWhole (global_line e number kinds)
global_whole e number kinds = whole_if (not (is_own e number) && is_used kinds) (use_line number kinds) (whole_end (codes "global " ++ decimal number ++ use_words kinds))

pair_whole : (p : ℕ × ℕ) → AreWhole (pair_line p)
pair_whole p = whole_end (codes "sample " ++ decimal p.0 ++ codes " " ++ decimal p.1)

line_whole : (number bytes step : ℕ) → AreWhole (buffer_line number bytes step)
line_whole number bytes step = whole_end (codes "buffer " ++ decimal number ++ codes " size " ++ decimal bytes ++ codes " alignment " ++ decimal step)

buffer_whole : (types : List PlainType) (number : ℕ) (v : PlainGlobal) → AreWhole (buffer_of types number v)
buffer_whole types number v = whole_if (is_buffer v.space) _ (line_whole number _ _)

module _ (number : ℕ) (e : PlainEntry) (uses : List GlobalUse) where
  front_whole : AreWhole (head_line number ++ own_line (codes "payload") e.payload)
  front_whole = whole_append (head_line number) (own_line (codes "payload") e.payload) (head_whole number) (own_whole (codes "payload") e.payload)

  own_lines_whole : AreWhole (head_line number ++ own_line (codes "payload") e.payload ++ own_line (codes "mesh") (mesh_output e))
  own_lines_whole = whole_append _ (own_line (codes "mesh") (mesh_output e)) front_whole (own_whole (codes "mesh") (mesh_output e))

  variables_whole : AreWhole (variable_lines number e uses)
  variables_whole = whole_append _ (each_from (global_line e) 0 uses) own_lines_whole (whole_each (global_line e) (global_whole e) 0 uses)

entry_whole : (number : ℕ) (e : PlainEntry) (uses : List GlobalUse) (pairs : List (ℕ × ℕ)) → AreWhole (entry_lines number e uses pairs)
entry_whole number e uses pairs = whole_append (variable_lines number e uses) (flat_map pair_line pairs) (variables_whole number e uses) (whole_flat pair_line pair_whole pairs)

-- ---- where the lines of an entry point are

module _ (number : ℕ) (e : PlainEntry) (uses : List GlobalUse) (pairs : List (ℕ × ℕ)) where
  payload_stands : HasLines (own_line (codes "payload") e.payload) (entry_lines number e uses pairs)
  payload_stands =
      has_left _ (variable_lines number e uses) _
      (has_left _ (head_line number ++ own_line (codes "payload") e.payload ++ own_line (codes "mesh") (mesh_output e)) _
      (has_left _ (head_line number ++ own_line (codes "payload") e.payload) _ (has_right _ (head_line number) _ (head_whole number) (has_itself _))))

  mesh_stands : HasLines (own_line (codes "mesh") (mesh_output e)) (entry_lines number e uses pairs)
  mesh_stands =
      has_left _ (variable_lines number e uses) _
      (has_left _ (head_line number ++ own_line (codes "payload") e.payload ++ own_line (codes "mesh") (mesh_output e)) _
      (has_right _ (head_line number ++ own_line (codes "payload") e.payload) _ (front_whole number e uses) (has_itself _)))

  use_stands : (g : ℕ) (kinds : GlobalUse) → slice_get uses g ≡ Some kinds → HasLines (global_line e g kinds) (entry_lines number e uses pairs)
  use_stands g kinds at =
      has_left _ (variable_lines number e uses) _
      (has_right _ (head_line number ++ own_line (codes "payload") e.payload ++ own_line (codes "mesh") (mesh_output e)) _ (own_lines_whole number e uses)
      (let n : 0 + g ≡ g = omega arith in subst (λ j. HasLines (global_line e j kinds) (each_from (global_line e) 0 uses)) n (has_each (global_line e) (global_whole e) 0 uses g kinds at)))

  pair_stands : (p : ℕ × ℕ) → IsAmong p pairs → HasLines (pair_line p) (entry_lines number e uses pairs)
  pair_stands p among = has_right _ (variable_lines number e uses) _ (variables_whole number e uses) (has_flat pair_line pair_whole pairs p among)

-- ---- what the lines list

either_true : (a b : Bool) → (a || b) ≡ true → (a ≡ true) ⊎ (b ≡ true)
either_true true b e = inl refl
either_true false b e = inr e

at_is : (own : Option ℕ) (g : ℕ) → is_at own g ≡ true → own ≡ Some g
at_is None g e = absurd (true≢false (sym e))
at_is (Some x) g e = ap Some (eqb-true x g e)

use_there : (uses : List GlobalUse) (g : ℕ) → g < length uses → slice_get uses g ≡ Some (slice_index_or uses g no_use)
use_there [] g lt = absurd (omega (arith, lt))
use_there (u ∷ uses) zero lt = refl
use_there (u ∷ uses) (suc g) lt = use_there uses g (omega (arith, lt))

line_is : (own used : Bool) (line : List ℕ) → own ≡ false → used ≡ true → (if not own && used then line else []) ≡ line
line_is false true line a b = refl
line_is true used line a b = absurd (true≢false a)
line_is false false line a b = absurd (true≢false (sym b))

module _ (m : PlainModule) (number : ℕ) (e : PlainEntry) (lines : List ℕ) (r : IsEntryReport m number e lines) (g : ℕ) where
  own_stands : is_own e g ≡ true → ReportsGlobal lines g
  own_stands owned = elim (either_true (is_at e.payload g) (is_at (mesh_output e) g) owned) [
    | inl payload ↦ as_payload (subst (λ o. HasLines (own_line (codes "payload") o) lines) (at_is e.payload g payload) (subst (HasLines _) (sym r.told) (payload_stands number e r.uses r.pairs)))
    | inr mesh ↦ as_mesh (subst (λ o. HasLines (own_line (codes "mesh") o) lines) (at_is (mesh_output e) g mesh) (subst (HasLines _) (sym r.told) (mesh_stands number e r.uses r.pairs)))
  ]

  used_stands : (own : Bool) → is_own e g ≡ own → g < length m.globals → IsTrue (is_used (slice_index_or r.uses g no_use)) → ReportsGlobal lines g
  used_stands true owned within used = own_stands owned
  used_stands false other within used =
      let kinds = slice_index_or r.uses g no_use in
      let there : slice_get r.uses g ≡ Some kinds = use_there r.uses g (subst (λ k. g < k) (sym r.are_uses.many) within) in
      let stands : HasLines (global_line e g kinds) lines = subst (HasLines _) (sym r.told) (use_stands number e r.uses r.pairs g kinds there) in
      as_used kinds used (subst (λ line. HasLines line lines) (line_is (is_own e g) (is_used kinds) (use_line g kinds) other used) stands)

  pub global_told : g < length m.globals → IsTrue (is_own e g) ⊎ IsTrue (is_used (slice_index_or r.uses g no_use)) → ReportsGlobal lines g
  global_told within told = elim told [ inl owned ↦ own_stands owned | inr used ↦ used_stands (is_own e g) refl within used ]

pub pair_told : (m : PlainModule) (number : ℕ) (e : PlainEntry) (lines : List ℕ) (r : IsEntryReport m number e lines) (image sampler : ℕ) → IsAmong (image, sampler) r.pairs → HasLines (pair_line (image, sampler)) lines
pair_told m number e lines r image sampler among = subst (HasLines _) (sym r.told) (pair_stands number e r.uses r.pairs (image, sampler) among)

pub lines_stand : LinesStand
lines_stand m number e lines r = ((λ g within told. global_told m number e lines r g within told), pair_told m number e lines r)

-- ---- the whole report

among_flat : (xs : List (List ℕ)) (k : ℕ) (x : List ℕ) → ((j : ℕ) (y : List ℕ) → slice_get xs j ≡ Some y → AreWhole y) → slice_get xs k ≡ Some x → HasLines x (flat_map (λ lines. lines) xs)
among_flat [] k x whole at = absurd (let e = at in cc)
among_flat (y ∷ ys) zero x whole at = let is : y ≡ x = (let e = at in cc) in has_left x y _ (subst (λ z. HasLines z y) is (has_itself y))
among_flat (y ∷ ys) (suc k) x whole at = has_right x y _ (whole 0 y refl) (among_flat ys k x (λ j z e. whole (suc j) z e) at)

there : {A : Type 0} (xs : List A) (k : ℕ) → k < length xs → (x : A) × (slice_get xs k ≡ Some x)
there [] k lt = absurd (omega (arith, lt))
there (x ∷ xs) zero lt = (x, refl)
there (x ∷ xs) (suc k) lt = there xs k (omega (arith, lt))

pub entries_are_reported : EntriesAreReported
entries_are_reported m report r number e at =
    let within : number < length m.entries = slice_get_within m.entries number e at in
    let lines = there r.entries number (subst (λ n. number < n) (sym r.are_entries.many) within) in
    let whole : (j : ℕ) (y : List ℕ) → slice_get r.entries j ≡ Some y → AreWhole y = λ j y is.
    let x = there m.entries j (subst (λ n. j < n) r.are_entries.many (slice_get_within r.entries j y is)) in
    let entry = r.are_entries.each j x.0 y x.1 is in subst AreWhole (sym entry.told) (entry_whole j x.0 entry.uses entry.pairs) in
    record {
      lines = lines.0;
      are = r.are_entries.each number e lines.0 at lines.1;
      stand = subst (HasLines lines.0) (sym r.told) (has_right lines.0 (buffers m) _ (whole_each (buffer_of m.types) (buffer_whole m.types) 0 m.globals) (among_flat r.entries number lines.0 whole lines.1));
    }

-- ---- buffers

if_holds : (b : Bool) (line : List ℕ) → b ≡ true → (if b then line else []) ≡ line
if_holds true line e = refl
if_holds false line e = absurd (true≢false (sym e))

pub buffers_are_reported : BuffersAreReported
buffers_are_reported m report r number v at b =
    let line = buffer_line number (size (type_tree m.types (effective_type m.types v.ty))) (alignment (type_tree m.types (effective_type m.types v.ty))) in
    let n : 0 + number ≡ number = omega arith in
    let piece : HasLines (buffer_of m.types (0 + number) v) (buffers m) = has_each (buffer_of m.types) (buffer_whole m.types) 0 m.globals number v at in
    let own : HasLines (buffer_of m.types number v) (buffers m) = subst (λ j. HasLines (buffer_of m.types j v) (buffers m)) n piece in
    let stands : HasLines line (buffers m) = subst (λ l. HasLines l (buffers m)) (if_holds (is_buffer v.space) line b) own in
    subst (HasLines line) (sym r.told) (has_left line (buffers m) _ stands)
