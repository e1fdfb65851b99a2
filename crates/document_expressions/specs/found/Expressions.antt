-- Decoding functions of expressions, which agree with the encoding relations.
use Rattle.std.specs.Prelude.{◌≡◌, ◌≤◌, ℕ, true, List, [], ◌∷◌, Option, Some, None, map, length, option_map, ◌==◌, nat_eq, if◌then◌else◌, codes, refl}
use Rattle.std.proofs.Common.{inl, inr, ap, sym, subst, ◌∙◌}
use Rattle.std.specs.Str.{bytes_eq}
use Rattle.std.proofs.lemmas.Option.{same_Some}
use borrow.Author.Tests.{eqb-true}
use Rattle.serde_json.specs.Data.{Data, null, boolean, number, string, array, object, Items, depth, items_depth}
use Rattle.serde_json.specs.Find.{as_str}
use Rattle.ir_kinds.specs.declared.values.Literal.{Literal}
use Rattle.ir_kinds.specs.declared.values.Literal.TheVariants as literal
use Rattle.ir_kinds.specs.declared.scalars.SwizzleComponent.{SwizzleComponent}
use Rattle.ir_kinds.specs.declared.scalars.SwizzleComponent.TheVariants.{X, Y, Z, W}
use Rattle.ir_types.specs.declared.expressions.SampleLevel.{SampleLevel}
use Rattle.ir_types.specs.declared.expressions.SampleLevel.TheVariants as level
use Rattle.ir_types.specs.declared.expressions.ImageQuery.{ImageQuery}
use Rattle.ir_types.specs.declared.expressions.ImageQuery.TheVariants as query
use Rattle.ir_types.specs.judged.ExpressionPlain.{PlainExpression, compose, plain as computes}
use Rattle.ir_types.specs.declared.expressions.Expression.TheVariants as computed
use Rattle.document_words.specs.Lookup.{lookup}
use Rattle.document_words.specs.Tables.{letters, cooperative_roles, unary_operators, binary_operators, derivative_axes, derivative_controls, relational_functions, math_functions, scalar_kinds}
use Rattle.document_forms.specs.found.Exact.{deepest, IsExact, FormOf, RowOf}
use Rattle.document_forms.specs.found.Decide.{◌>>=◌, of_kind, tagged_of}
use Rattle.document_forms.specs.found.Inverse.{bind_some, map_some, chosen, guarded, is_word, as_str_some}
use Rattle.document_forms.specs.found.KindLaws.{AreSound, kind_sound, kind_complete, tagged_complete}
use Rattle.document_forms.specs.found.Forms.{a_u8, a_u16, a_u64, a_i16, a_i32, a_i64, a_handle, a_u32, a_size, a_side, a_bool, a_word, maybe, a_list, ends, row_by_kind, by_kind}
use Rattle.document_forms.specs.found.Rows.{row1, row2, row3, row5, row6, row9}
use Rattle.document_expressions.specs.judged.Form.{ALiteral, ASampleLevel, AnImageQuery, APattern, AnExpression}
use Rattle.document_expressions.specs.found.Kinds.{expression_kinds, literal_kinds, level_kinds, query_kinds}
use Rattle.document_expressions.specs.declared.kinds.ExpressionKind.{ExpressionKind}
use Rattle.document_expressions.specs.declared.kinds.ExpressionKind.TheVariants as expression_kind
use Rattle.document_expressions.specs.declared.kinds.LiteralKind.{LiteralKind}
use Rattle.document_expressions.specs.declared.kinds.LiteralKind.TheVariants as literal_kind
use Rattle.document_expressions.specs.declared.kinds.LevelKind.{LevelKind}
use Rattle.document_expressions.specs.declared.kinds.LevelKind.TheVariants as level_kind
use Rattle.document_expressions.specs.declared.kinds.QueryKind.{QueryKind}
use Rattle.document_expressions.specs.declared.kinds.QueryKind.TheVariants as query_kind

-- ---- literals

unfoldable pub literal_with : LiteralKind → Items → Option Literal
literal_with literal_kind.Bool ds = option_map literal.Bool ((row1 a_bool).find ds)
literal_with literal_kind.I16 ds = option_map literal.I16 ((row1 a_i16).find ds)
literal_with literal_kind.U16 ds = option_map literal.U16 ((row1 a_u16).find ds)
literal_with literal_kind.I32 ds = option_map literal.I32 ((row1 a_i32).find ds)
literal_with literal_kind.U32 ds = option_map literal.U32 ((row1 a_u32).find ds)
literal_with literal_kind.I64 ds = option_map literal.I64 ((row1 a_i64).find ds)
literal_with literal_kind.U64 ds = option_map literal.U64 ((row1 a_u64).find ds)
literal_with literal_kind.F16 ds = option_map literal.F16 ((row1 a_u16).find ds)
literal_with literal_kind.F32 ds = option_map literal.F32 ((row1 a_u32).find ds)
literal_with literal_kind.F64 ds = option_map literal.F64 ((row1 a_u64).find ds)
literal_with literal_kind.AbstractInt ds = option_map literal.AbstractInt ((row1 a_i64).find ds)
literal_with literal_kind.AbstractFloat ds = option_map literal.AbstractFloat ((row1 a_u64).find ds)

pub literal_sound : AreSound literal_with ALiteral literal_kinds
unfolding literal_with
literal_sound = (
  kind_sound (row1 a_u32) literal.F32 (codes "f32") ALiteral (λ t ds h. (refl, h)),
  (
    kind_sound (row1 a_u32) literal.U32 (codes "u32") ALiteral (λ t ds h. (refl, h)),
    (
      kind_sound (row1 a_i32) literal.I32 (codes "i32") ALiteral (λ t ds h. (refl, h)),
      (
        kind_sound (row1 a_bool) literal.Bool (codes "bool") ALiteral (λ t ds h. (refl, h)),
        (
          kind_sound (row1 a_i64) literal.AbstractInt (codes "aint") ALiteral (λ t ds h. (refl, h)),
          (
            kind_sound (row1 a_u64) literal.AbstractFloat (codes "afloat") ALiteral (λ t ds h. (refl, h)),
            (
              kind_sound (row1 a_u16) literal.F16 (codes "f16") ALiteral (λ t ds h. (refl, h)),
              (
                kind_sound (row1 a_u64) literal.F64 (codes "f64") ALiteral (λ t ds h. (refl, h)),
                (
                  kind_sound (row1 a_i64) literal.I64 (codes "i64") ALiteral (λ t ds h. (refl, h)),
                  (
                    kind_sound (row1 a_u64) literal.U64 (codes "u64") ALiteral (λ t ds h. (refl, h)),
                    (
                      kind_sound (row1 a_i16) literal.I16 (codes "i16") ALiteral (λ t ds h. (refl, h)),
                      (
                        kind_sound (row1 a_u16) literal.U16 (codes "u16") ALiteral (λ t ds h. (refl, h)),
                        tt,
                      ),
                    ),
                  ),
                ),
              ),
            ),
          ),
        ),
      ),
    ),
  ),
)

pub literal_complete : (x : Literal) → (ds : Items) → ALiteral x ds → items_depth ds ≤ deepest → of_kind literal_kinds literal_with ds ≡ Some x
unfolding literal_with
literal_complete (literal.Bool v) = kind_complete literal_kinds literal_with (row1 a_bool) literal.Bool (codes "bool") literal_kind.Bool refl (λ ds. refl) v
literal_complete (literal.I16 v) = kind_complete literal_kinds literal_with (row1 a_i16) literal.I16 (codes "i16") literal_kind.I16 refl (λ ds. refl) v
literal_complete (literal.U16 v) = kind_complete literal_kinds literal_with (row1 a_u16) literal.U16 (codes "u16") literal_kind.U16 refl (λ ds. refl) v
literal_complete (literal.I32 v) = kind_complete literal_kinds literal_with (row1 a_i32) literal.I32 (codes "i32") literal_kind.I32 refl (λ ds. refl) v
literal_complete (literal.U32 v) = kind_complete literal_kinds literal_with (row1 a_u32) literal.U32 (codes "u32") literal_kind.U32 refl (λ ds. refl) v
literal_complete (literal.I64 v) = kind_complete literal_kinds literal_with (row1 a_i64) literal.I64 (codes "i64") literal_kind.I64 refl (λ ds. refl) v
literal_complete (literal.U64 v) = kind_complete literal_kinds literal_with (row1 a_u64) literal.U64 (codes "u64") literal_kind.U64 refl (λ ds. refl) v
literal_complete (literal.F16 v) = kind_complete literal_kinds literal_with (row1 a_u16) literal.F16 (codes "f16") literal_kind.F16 refl (λ ds. refl) v
literal_complete (literal.F32 v) = kind_complete literal_kinds literal_with (row1 a_u32) literal.F32 (codes "f32") literal_kind.F32 refl (λ ds. refl) v
literal_complete (literal.F64 v) = kind_complete literal_kinds literal_with (row1 a_u64) literal.F64 (codes "f64") literal_kind.F64 refl (λ ds. refl) v
literal_complete (literal.AbstractInt v) = kind_complete literal_kinds literal_with (row1 a_i64) literal.AbstractInt (codes "aint") literal_kind.AbstractInt refl (λ ds. refl) v
literal_complete (literal.AbstractFloat v) = kind_complete literal_kinds literal_with (row1 a_u64) literal.AbstractFloat (codes "afloat") literal_kind.AbstractFloat refl (λ ds. refl) v

abbrev pub a_literal : RowOf Literal
a_literal = row_by_kind literal_kinds literal_with ALiteral literal_sound literal_complete

-- ---- sample levels and image queries

unfoldable pub level_with : LevelKind → Items → Option SampleLevel
level_with level_kind.Auto ds = option_map (λ t. level.Auto) (ends.find ds)
level_with level_kind.Zero ds = option_map (λ t. level.Zero) (ends.find ds)
level_with level_kind.Exact ds = option_map level.Exact ((row1 a_handle).find ds)
level_with level_kind.Bias ds = option_map level.Bias ((row1 a_handle).find ds)
level_with level_kind.Gradient ds = option_map (λ t. level.Gradient t.0 t.1) ((row2 a_handle a_handle).find ds)

pub level_sound : AreSound level_with (λ x ds. ASampleLevel x (array ds)) level_kinds
unfolding level_with
level_sound = (
  kind_sound ends (λ t. level.Auto) (codes "Auto") (λ x ds. ASampleLevel x (array ds)) (λ t ds h. (refl, h)),
  (
    kind_sound ends (λ t. level.Zero) (codes "Zero") (λ x ds. ASampleLevel x (array ds)) (λ t ds h. (refl, h)),
    (
      kind_sound (row1 a_handle) level.Exact (codes "Exact") (λ x ds. ASampleLevel x (array ds)) (λ t ds h. (refl, h)),
      (
        kind_sound (row1 a_handle) level.Bias (codes "Bias") (λ x ds. ASampleLevel x (array ds)) (λ t ds h. (refl, h)),
        (
          kind_sound (row2 a_handle a_handle) (λ t. level.Gradient t.0 t.1) (codes "Gradient") (λ x ds. ASampleLevel x (array ds)) (λ t ds h. (refl, h)),
          tt,
        ),
      ),
    ),
  ),
)

pub level_complete : (x : SampleLevel) → (d : Data) → ASampleLevel x d → depth d ≤ deepest → tagged_of level_kinds level_with d ≡ Some x
unfolding level_with
level_complete level.Auto = tagged_complete level_kinds level_with ends (λ t. level.Auto) (codes "Auto") level_kind.Auto refl (λ ds. refl) tt
level_complete level.Zero = tagged_complete level_kinds level_with ends (λ t. level.Zero) (codes "Zero") level_kind.Zero refl (λ ds. refl) tt
level_complete (level.Exact e) = tagged_complete level_kinds level_with (row1 a_handle) level.Exact (codes "Exact") level_kind.Exact refl (λ ds. refl) e
level_complete (level.Bias e) = tagged_complete level_kinds level_with (row1 a_handle) level.Bias (codes "Bias") level_kind.Bias refl (λ ds. refl) e
level_complete (level.Gradient x y) = tagged_complete level_kinds level_with (row2 a_handle a_handle) (λ t. level.Gradient t.0 t.1) (codes "Gradient") level_kind.Gradient refl (λ ds. refl) (x, y)

abbrev pub a_level : FormOf SampleLevel
a_level = by_kind level_kinds level_with ASampleLevel level_sound level_complete

unfoldable pub query_with : QueryKind → Items → Option ImageQuery
query_with query_kind.Size ds = option_map query.Size ((row1 (maybe a_handle)).find ds)
query_with query_kind.NumLevels ds = option_map (λ t. query.NumLevels) (ends.find ds)
query_with query_kind.NumLayers ds = option_map (λ t. query.NumLayers) (ends.find ds)
query_with query_kind.NumSamples ds = option_map (λ t. query.NumSamples) (ends.find ds)

pub query_sound : AreSound query_with (λ x ds. AnImageQuery x (array ds)) query_kinds
unfolding query_with
query_sound = (
  kind_sound (row1 (maybe a_handle)) query.Size (codes "Size") (λ x ds. AnImageQuery x (array ds)) (λ t ds h. (refl, h)),
  (
    kind_sound ends (λ t. query.NumLevels) (codes "NumLevels") (λ x ds. AnImageQuery x (array ds)) (λ t ds h. (refl, h)),
    (
      kind_sound ends (λ t. query.NumLayers) (codes "NumLayers") (λ x ds. AnImageQuery x (array ds)) (λ t ds h. (refl, h)),
      (
        kind_sound ends (λ t. query.NumSamples) (codes "NumSamples") (λ x ds. AnImageQuery x (array ds)) (λ t ds h. (refl, h)),
        tt,
      ),
    ),
  ),
)

pub query_complete : (x : ImageQuery) → (d : Data) → AnImageQuery x d → depth d ≤ deepest → tagged_of query_kinds query_with d ≡ Some x
unfolding query_with
query_complete (query.Size e) = tagged_complete query_kinds query_with (row1 (maybe a_handle)) query.Size (codes "Size") query_kind.Size refl (λ ds. refl) e
query_complete query.NumLevels = tagged_complete query_kinds query_with ends (λ t. query.NumLevels) (codes "NumLevels") query_kind.NumLevels refl (λ ds. refl) tt
query_complete query.NumLayers = tagged_complete query_kinds query_with ends (λ t. query.NumLayers) (codes "NumLayers") query_kind.NumLayers refl (λ ds. refl) tt
query_complete query.NumSamples = tagged_complete query_kinds query_with ends (λ t. query.NumSamples) (codes "NumSamples") query_kind.NumSamples refl (λ ds. refl) tt

abbrev pub a_query : FormOf ImageQuery
a_query = by_kind query_kinds query_with AnImageQuery query_sound query_complete

-- ---- swizzle patterns

abbrev pub letter_code : SwizzleComponent → ℕ
letter_code X = 120
letter_code Y = 121
letter_code Z = 122
letter_code W = 119

abbrev pub letter_in : ℕ → Option SwizzleComponent
letter_in n = if n == 120 then Some X else (if n == 121 then Some Y else (if n == 122 then Some Z else (if n == 119 then Some W else None)))

-- the first letter, followed by the rest of the string
abbrev pub next_letter : List ℕ → Option (SwizzleComponent × List ℕ)
next_letter [] = None
next_letter (n ∷ ns) = option_map (λ c. (c, ns)) (letter_in n)

abbrev pub last_letter : List ℕ → Option SwizzleComponent
last_letter [] = None
last_letter (n ∷ []) = letter_in n
last_letter (n ∷ m ∷ ns) = None

unfoldable pub pattern_in : List ℕ → Option (List SwizzleComponent)
pattern_in w = do
  a ← next_letter w
  b ← next_letter a.1
  c ← next_letter b.1
  e ← last_letter c.1
  Some (a.0 ∷ b.0 ∷ c.0 ∷ e ∷ [])

abbrev pub pattern_of : Data → Option (List SwizzleComponent)
pattern_of d = as_str d >>= pattern_in

letter_some : (n : ℕ) (c : SwizzleComponent) → letter_in n ≡ Some c → n ≡ letter_code c
letter_some n c e =
    elim (chosen (nat_eq n 120) _ _ _ e) [
      | inl a ↦ eqb-true n 120 a.0 ∙ ap letter_code (same_Some X c a.1)
      | inr a ↦ elim (chosen (nat_eq n 121) _ _ _ a.1) [
        | inl b ↦ eqb-true n 121 b.0 ∙ ap letter_code (same_Some Y c b.1)
        | inr b ↦ elim (chosen (nat_eq n 122) _ _ _ b.1) [
          | inl z ↦ eqb-true n 122 z.0 ∙ ap letter_code (same_Some Z c z.1)
          | inr z ↦ let g = guarded (nat_eq n 119) (Some W) c z.1 in eqb-true n 119 g.0 ∙ ap letter_code (same_Some W c g.1)
        ]
      ]
    ]

letter_there : (c : SwizzleComponent) → letter_in (letter_code c) ≡ Some c
letter_there X = refl
letter_there Y = refl
letter_there Z = refl
letter_there W = refl

next_some : (w : List ℕ) (t : SwizzleComponent × List ℕ) → next_letter w ≡ Some t → w ≡ (letter_code t.0 ∷ t.1)
next_some [] t e = cc
next_some (n ∷ ns) t e =
    let a = map_some _ (letter_in n) t e in
    subst (λ u. (n ∷ ns) ≡ (letter_code u.0 ∷ u.1)) a.2 (ap (λ m. m ∷ ns) (letter_some n a.0 a.1))

last_some : (w : List ℕ) (c : SwizzleComponent) → last_letter w ≡ Some c → w ≡ (letter_code c ∷ [])
last_some [] c e = cc
last_some (n ∷ []) c e = ap (λ m. m ∷ []) (letter_some n c e)
last_some (n ∷ m ∷ ns) c e = cc

-- a pattern by the codes of its letters
abbrev CodedPattern : List SwizzleComponent → Data → Type 0
CodedPattern cs d = (d ≡ string (map letter_code cs)) × (length cs ≡ 4)

coded_exact : IsExact pattern_of CodedPattern
unfolding pattern_in
coded_exact = record { sound = found; complete = there }
  where
    found : (d : Data) (cs : List SwizzleComponent) → pattern_of d ≡ Some cs → CodedPattern cs d
    found d cs e =
        let w = bind_some _ (as_str d) cs e in
        let a = bind_some _ (next_letter w.0) cs w.2 in
        let b = bind_some _ (next_letter a.0.1) cs a.2 in
        let c = bind_some _ (next_letter b.0.1) cs b.2 in
        let z = bind_some _ (last_letter c.0.1) cs c.2 in
        let w_is = next_some w.0 a.0 a.1 ∙ ap (λ ns. letter_code a.0.0 ∷ ns) (next_some a.0.1 b.0 b.1 ∙ ap (λ ns. letter_code b.0.0 ∷ ns) (next_some b.0.1 c.0 c.1 ∙ ap (λ ns. letter_code c.0.0 ∷ ns) (last_some c.0.1 z.0 z.1))) in
        subst (λ x. CodedPattern x d) (same_Some _ cs z.2) (as_str_some d w.0 w.1 ∙ ap string w_is, refl)

    there : (d : Data) (cs : List SwizzleComponent) → CodedPattern cs d → depth d ≤ deepest → pattern_of d ≡ Some cs
    there d [] h le = absurd (let x = h.1 in cc)
    there d (a ∷ []) h le = absurd (let x = h.1 in cc)
    there d (a ∷ b ∷ []) h le = absurd (let x = h.1 in cc)
    there d (a ∷ b ∷ c ∷ []) h le = absurd (let x = h.1 in cc)
    there d (a ∷ b ∷ c ∷ e ∷ []) h le = rw h.0 (rw (letter_there a) (rw (letter_there b) (rw (letter_there c) (rw (letter_there e) refl))))
    there d (a ∷ b ∷ c ∷ e ∷ f ∷ cs) h le = absurd (let x = h.1 in cc)

-- the letters of the table, and their codes
names_of : (cs : List SwizzleComponent) → map (λ l. lookup (l ∷ []) letters) (map letter_code cs) ≡ map Some cs
names_of [] = refl
names_of (X ∷ cs) = ap (λ xs. Some X ∷ xs) (names_of cs)
names_of (Y ∷ cs) = ap (λ xs. Some Y ∷ xs) (names_of cs)
names_of (Z ∷ cs) = ap (λ xs. Some Z ∷ xs) (names_of cs)
names_of (W ∷ cs) = ap (λ xs. Some W ∷ xs) (names_of cs)

one_code : (l n : ℕ) → bytes_eq (l ∷ []) (n ∷ []) ≡ true → l ≡ n
one_code l n e =
    let w : (l ∷ []) ≡ (n ∷ []) = is_word (l ∷ []) (n ∷ []) e in
    cc

code_of : (l : ℕ) (c : SwizzleComponent) → lookup (l ∷ []) letters ≡ Some c → l ≡ letter_code c
code_of l c e =
    elim (chosen (bytes_eq (l ∷ []) (codes "x")) _ _ _ e) [
      | inl a ↦ one_code l 120 a.0 ∙ ap letter_code (same_Some X c a.1)
      | inr a ↦ elim (chosen (bytes_eq (l ∷ []) (codes "y")) _ _ _ a.1) [
        | inl b ↦ one_code l 121 b.0 ∙ ap letter_code (same_Some Y c b.1)
        | inr b ↦ elim (chosen (bytes_eq (l ∷ []) (codes "z")) _ _ _ b.1) [
          | inl z ↦ one_code l 122 z.0 ∙ ap letter_code (same_Some Z c z.1)
          | inr z ↦ let g = guarded (bytes_eq (l ∷ []) (codes "w")) (Some W) c z.1 in one_code l 119 g.0 ∙ ap letter_code (same_Some W c g.1)
        ]
      ]
    ]

codes_of : (w : List ℕ) (cs : List SwizzleComponent) → map (λ l. lookup (l ∷ []) letters) w ≡ map Some cs → w ≡ map letter_code cs
codes_of [] [] e = refl
codes_of [] (c ∷ cs) e = cc
codes_of (l ∷ ls) [] e = cc
codes_of (l ∷ ls) (c ∷ cs) e =
    let first : lookup (l ∷ []) letters ≡ Some c = cc in
    let rest : map (λ l. lookup (l ∷ []) letters) ls ≡ map Some cs = cc in
    let n : l ≡ letter_code c = code_of l c first in
    let ns : ls ≡ map letter_code cs = codes_of ls cs rest in
    cc

coded : (d : Data) (cs : List SwizzleComponent) → APattern cs d → CodedPattern cs d
coded null cs h = absurd h
coded (boolean b) cs h = absurd h
coded (number n) cs h = absurd h
coded (string w) cs h = (ap string (codes_of w cs h.0), h.1)
coded (array ds) cs h = absurd h
coded (object ms) cs h = absurd h

pub pattern_exact : IsExact pattern_of APattern
pattern_exact = record { sound = found; complete = λ d cs h le. coded_exact.complete d cs (coded d cs h) le }
  where
    found : (d : Data) (cs : List SwizzleComponent) → pattern_of d ≡ Some cs → APattern cs d
    found d cs e =
        let h = coded_exact.sound d cs e in
        subst (APattern cs) (sym h.0) (names_of cs, h.1)

abbrev pub a_pattern : FormOf (List SwizzleComponent)
a_pattern = record { find = pattern_of; Written = APattern; exact = pattern_exact }

-- ---- expressions

unfoldable pub expression_with : ExpressionKind → Items → Option PlainExpression
expression_with expression_kind.Literal ds = option_map (λ t. computes (computed.Literal t)) (a_literal.find ds)
expression_with expression_kind.Constant ds = option_map (λ t. computes (computed.Constant t)) ((row1 a_handle).find ds)
expression_with expression_kind.Override ds = option_map (λ t. computes (computed.Override t)) ((row1 a_handle).find ds)
expression_with expression_kind.ZeroValue ds = option_map (λ t. computes (computed.ZeroValue t)) ((row1 a_handle).find ds)
expression_with expression_kind.Compose ds = option_map (λ t. compose t.0 t.1) ((row2 a_handle (a_list a_handle)).find ds)
expression_with expression_kind.Access ds = option_map (λ t. computes (computed.Access t.0 t.1)) ((row2 a_handle a_handle).find ds)
expression_with expression_kind.AccessIndex ds = option_map (λ t. computes (computed.AccessIndex t.0 t.1)) ((row2 a_handle a_u32).find ds)
expression_with expression_kind.Splat ds = option_map (λ t. computes (computed.Splat t.0 t.1)) ((row2 a_size a_handle).find ds)
expression_with expression_kind.Swizzle ds = option_map (λ t. computes (computed.Swizzle t.0 t.1 t.2)) ((row3 a_size a_handle a_pattern).find ds)
expression_with expression_kind.FunctionArgument ds = option_map (λ t. computes (computed.FunctionArgument t)) ((row1 a_u32).find ds)
expression_with expression_kind.GlobalVariable ds = option_map (λ t. computes (computed.GlobalVariable t)) ((row1 a_handle).find ds)
expression_with expression_kind.LocalVariable ds = option_map (λ t. computes (computed.LocalVariable t)) ((row1 a_handle).find ds)
expression_with expression_kind.Load ds = option_map (λ t. computes (computed.Load t)) ((row1 a_handle).find ds)
expression_with expression_kind.ImageSample ds = option_map (λ t. computes (computed.ImageSample t.0 t.1 t.2 t.3 t.4 t.5 t.6 t.7 t.8)) ((row9 a_handle a_handle (maybe (a_word letters)) a_handle (maybe a_handle) (maybe a_handle) a_level (maybe a_handle) a_bool).find ds)
expression_with expression_kind.ImageLoad ds = option_map (λ t. computes (computed.ImageLoad t.0 t.1 t.2 t.3 t.4)) ((row5 a_handle a_handle (maybe a_handle) (maybe a_handle) (maybe a_handle)).find ds)
expression_with expression_kind.ImageQuery ds = option_map (λ t. computes (computed.ImageQuery t.0 t.1)) ((row2 a_handle a_query).find ds)
expression_with expression_kind.Unary ds = option_map (λ t. computes (computed.Unary t.0 t.1)) ((row2 (a_word unary_operators) a_handle).find ds)
expression_with expression_kind.Binary ds = option_map (λ t. computes (computed.Binary t.0 t.1 t.2)) ((row3 (a_word binary_operators) a_handle a_handle).find ds)
expression_with expression_kind.Select ds = option_map (λ t. computes (computed.Select t.0 t.1 t.2)) ((row3 a_handle a_handle a_handle).find ds)
expression_with expression_kind.Derivative ds = option_map (λ t. computes (computed.Derivative t.0 t.1 t.2)) ((row3 (a_word derivative_axes) (a_word derivative_controls) a_handle).find ds)
expression_with expression_kind.Relational ds = option_map (λ t. computes (computed.Relational t.0 t.1)) ((row2 (a_word relational_functions) a_handle).find ds)
expression_with expression_kind.Math ds = option_map (λ t. computes (computed.Math t.0 t.1 t.2 t.3 t.4)) ((row5 (a_word math_functions) a_handle (maybe a_handle) (maybe a_handle) (maybe a_handle)).find ds)
expression_with expression_kind.As ds = option_map (λ t. computes (computed.As t.0 t.1 t.2)) ((row3 a_handle (a_word scalar_kinds) (maybe a_u8)).find ds)
expression_with expression_kind.CallResult ds = option_map (λ t. computes (computed.CallResult t)) ((row1 a_handle).find ds)
expression_with expression_kind.AtomicResult ds = option_map (λ t. computes (computed.AtomicResult t.0 t.1)) ((row2 a_handle a_bool).find ds)
expression_with expression_kind.WorkGroupUniformLoadResult ds = option_map (λ t. computes (computed.WorkGroupUniformLoadResult t)) ((row1 a_handle).find ds)
expression_with expression_kind.ArrayLength ds = option_map (λ t. computes (computed.ArrayLength t)) ((row1 a_handle).find ds)
expression_with expression_kind.RayQueryVertexPositions ds = option_map (λ t. computes (computed.RayQueryVertexPositions t.0 t.1)) ((row2 a_handle a_bool).find ds)
expression_with expression_kind.RayQueryProceedResult ds = option_map (λ t. computes computed.RayQueryProceedResult) (ends.find ds)
expression_with expression_kind.RayQueryGetIntersection ds = option_map (λ t. computes (computed.RayQueryGetIntersection t.0 t.1)) ((row2 a_handle a_bool).find ds)
expression_with expression_kind.SubgroupBallotResult ds = option_map (λ t. computes computed.SubgroupBallotResult) (ends.find ds)
expression_with expression_kind.SubgroupOperationResult ds = option_map (λ t. computes (computed.SubgroupOperationResult t)) ((row1 a_handle).find ds)
expression_with expression_kind.CooperativeLoad ds = option_map (λ t. computes (computed.CooperativeLoad t.0 t.1 t.2 (record { pointer = t.3; stride = t.4; row_major = t.5 }))) ((row6 a_side a_side (a_word cooperative_roles) a_handle a_handle a_bool).find ds)
expression_with expression_kind.CooperativeMultiplyAdd ds = option_map (λ t. computes (computed.CooperativeMultiplyAdd t.0 t.1 t.2)) ((row3 a_handle a_handle a_handle).find ds)

pub expression_sound : AreSound expression_with (λ x ds. AnExpression x (array ds)) expression_kinds
unfolding expression_with AnExpression
expression_sound = (
  kind_sound (row1 a_handle) (λ t. computes (computed.Load t)) (codes "Load") (λ x ds. AnExpression x (array ds)) (λ t ds h. (refl, h)),
  (
    kind_sound a_literal (λ t. computes (computed.Literal t)) (codes "Literal") (λ x ds. AnExpression x (array ds)) (λ t ds h. (refl, h)),
    (
      kind_sound (row2 a_handle a_u32) (λ t. computes (computed.AccessIndex t.0 t.1)) (codes "AccessIndex") (λ x ds. AnExpression x (array ds)) (λ t ds h. (refl, h)),
      (
        kind_sound (row2 a_handle a_handle) (λ t. computes (computed.Access t.0 t.1)) (codes "Access") (λ x ds. AnExpression x (array ds)) (λ t ds h. (refl, h)),
        (
          kind_sound (row3 (a_word binary_operators) a_handle a_handle) (λ t. computes (computed.Binary t.0 t.1 t.2)) (codes "Binary") (λ x ds. AnExpression x (array ds)) (λ t ds h. (refl, h)),
          (
            kind_sound (row2 a_handle (a_list a_handle)) (λ t. compose t.0 t.1) (codes "Compose") (λ x ds. AnExpression x (array ds)) (λ t ds h. (refl, h)),
            (
              kind_sound (row1 a_handle) (λ t. computes (computed.GlobalVariable t)) (codes "GlobalVariable") (λ x ds. AnExpression x (array ds)) (λ t ds h. (refl, h)),
              (
                kind_sound (row1 a_handle) (λ t. computes (computed.LocalVariable t)) (codes "LocalVariable") (λ x ds. AnExpression x (array ds)) (λ t ds h. (refl, h)),
                (
                  kind_sound (row1 a_u32) (λ t. computes (computed.FunctionArgument t)) (codes "FunctionArgument") (λ x ds. AnExpression x (array ds)) (λ t ds h. (refl, h)),
                  (
                    kind_sound (row1 a_handle) (λ t. computes (computed.CallResult t)) (codes "CallResult") (λ x ds. AnExpression x (array ds)) (λ t ds h. (refl, h)),
                    (
                      kind_sound (row2 a_size a_handle) (λ t. computes (computed.Splat t.0 t.1)) (codes "Splat") (λ x ds. AnExpression x (array ds)) (λ t ds h. (refl, h)),
                      (
                        kind_sound (row3 a_size a_handle a_pattern) (λ t. computes (computed.Swizzle t.0 t.1 t.2)) (codes "Swizzle") (λ x ds. AnExpression x (array ds)) (λ t ds h. (refl, h)),
                        (
                          kind_sound (row5 (a_word math_functions) a_handle (maybe a_handle) (maybe a_handle) (maybe a_handle)) (λ t. computes (computed.Math t.0 t.1 t.2 t.3 t.4)) (codes "Math") (λ x ds. AnExpression x (array ds)) (λ t ds h. (refl, h)),
                          (
                            kind_sound (row2 (a_word unary_operators) a_handle) (λ t. computes (computed.Unary t.0 t.1)) (codes "Unary") (λ x ds. AnExpression x (array ds)) (λ t ds h. (refl, h)),
                            (
                              kind_sound (row3 a_handle a_handle a_handle) (λ t. computes (computed.Select t.0 t.1 t.2)) (codes "Select") (λ x ds. AnExpression x (array ds)) (λ t ds h. (refl, h)),
                              (
                                kind_sound (row3 a_handle (a_word scalar_kinds) (maybe a_u8)) (λ t. computes (computed.As t.0 t.1 t.2)) (codes "As") (λ x ds. AnExpression x (array ds)) (λ t ds h. (refl, h)),
                                (
                                  kind_sound (row9 a_handle a_handle (maybe (a_word letters)) a_handle (maybe a_handle) (maybe a_handle) a_level (maybe a_handle) a_bool) (λ t. computes (computed.ImageSample t.0 t.1 t.2 t.3 t.4 t.5 t.6 t.7 t.8)) (codes "ImageSample") (λ x ds. AnExpression x (array ds)) (λ t ds h. (refl, h)),
                                  (
                                    kind_sound (row1 a_handle) (λ t. computes (computed.Constant t)) (codes "Constant") (λ x ds. AnExpression x (array ds)) (λ t ds h. (refl, h)),
                                    (
                                      kind_sound (row1 a_handle) (λ t. computes (computed.ZeroValue t)) (codes "ZeroValue") (λ x ds. AnExpression x (array ds)) (λ t ds h. (refl, h)),
                                      (
                                        kind_sound (row5 a_handle a_handle (maybe a_handle) (maybe a_handle) (maybe a_handle)) (λ t. computes (computed.ImageLoad t.0 t.1 t.2 t.3 t.4)) (codes "ImageLoad") (λ x ds. AnExpression x (array ds)) (λ t ds h. (refl, h)),
                                        (
                                          kind_sound (row2 a_handle a_query) (λ t. computes (computed.ImageQuery t.0 t.1)) (codes "ImageQuery") (λ x ds. AnExpression x (array ds)) (λ t ds h. (refl, h)),
                                          (
                                            kind_sound (row2 (a_word relational_functions) a_handle) (λ t. computes (computed.Relational t.0 t.1)) (codes "Relational") (λ x ds. AnExpression x (array ds)) (λ t ds h. (refl, h)),
                                            (
                                              kind_sound (row3 (a_word derivative_axes) (a_word derivative_controls) a_handle) (λ t. computes (computed.Derivative t.0 t.1 t.2)) (codes "Derivative") (λ x ds. AnExpression x (array ds)) (λ t ds h. (refl, h)),
                                              (
                                                kind_sound (row2 a_handle a_bool) (λ t. computes (computed.AtomicResult t.0 t.1)) (codes "AtomicResult") (λ x ds. AnExpression x (array ds)) (λ t ds h. (refl, h)),
                                                (
                                                  kind_sound (row1 a_handle) (λ t. computes (computed.Override t)) (codes "Override") (λ x ds. AnExpression x (array ds)) (λ t ds h. (refl, h)),
                                                  (
                                                    kind_sound (row1 a_handle) (λ t. computes (computed.ArrayLength t)) (codes "ArrayLength") (λ x ds. AnExpression x (array ds)) (λ t ds h. (refl, h)),
                                                    (
                                                      kind_sound (row1 a_handle) (λ t. computes (computed.WorkGroupUniformLoadResult t)) (codes "WorkGroupUniformLoadResult") (λ x ds. AnExpression x (array ds)) (λ t ds h. (refl, h)),
                                                      (
                                                        kind_sound ends (λ t. computes computed.RayQueryProceedResult) (codes "RayQueryProceedResult") (λ x ds. AnExpression x (array ds)) (λ t ds h. (refl, h)),
                                                        (
                                                          kind_sound (row2 a_handle a_bool) (λ t. computes (computed.RayQueryGetIntersection t.0 t.1)) (codes "RayQueryGetIntersection") (λ x ds. AnExpression x (array ds)) (λ t ds h. (refl, h)),
                                                          (
                                                            kind_sound (row2 a_handle a_bool) (λ t. computes (computed.RayQueryVertexPositions t.0 t.1)) (codes "RayQueryVertexPositions") (λ x ds. AnExpression x (array ds)) (λ t ds h. (refl, h)),
                                                            (
                                                              kind_sound ends (λ t. computes computed.SubgroupBallotResult) (codes "SubgroupBallotResult") (λ x ds. AnExpression x (array ds)) (λ t ds h. (refl, h)),
                                                              (
                                                                kind_sound (row1 a_handle) (λ t. computes (computed.SubgroupOperationResult t)) (codes "SubgroupOperationResult") (λ x ds. AnExpression x (array ds)) (λ t ds h. (refl, h)),
                                                                (
                                                                  kind_sound (row6 a_side a_side (a_word cooperative_roles) a_handle a_handle a_bool) (λ t. computes (computed.CooperativeLoad t.0 t.1 t.2 (record { pointer = t.3; stride = t.4; row_major = t.5 }))) (codes "CooperativeLoad") (λ x ds. AnExpression x (array ds)) (λ t ds h. (refl, h)),
                                                                  (
                                                                    kind_sound (row3 a_handle a_handle a_handle) (λ t. computes (computed.CooperativeMultiplyAdd t.0 t.1 t.2)) (codes "CooperativeMultiplyAdd") (λ x ds. AnExpression x (array ds)) (λ t ds h. (refl, h)),
                                                                    tt,
                                                                  ),
                                                                ),
                                                              ),
                                                            ),
                                                          ),
                                                        ),
                                                      ),
                                                    ),
                                                  ),
                                                ),
                                              ),
                                            ),
                                          ),
                                        ),
                                      ),
                                    ),
                                  ),
                                ),
                              ),
                            ),
                          ),
                        ),
                      ),
                    ),
                  ),
                ),
              ),
            ),
          ),
        ),
      ),
    ),
  ),
)

pub expression_complete : (x : PlainExpression) → (d : Data) → AnExpression x d → depth d ≤ deepest → tagged_of expression_kinds expression_with d ≡ Some x
unfolding expression_with AnExpression
expression_complete (computes (computed.Literal l)) = tagged_complete expression_kinds expression_with a_literal (λ t. computes (computed.Literal t)) (codes "Literal") expression_kind.Literal refl (λ ds. refl) l
expression_complete (computes (computed.Constant handle)) = tagged_complete expression_kinds expression_with (row1 a_handle) (λ t. computes (computed.Constant t)) (codes "Constant") expression_kind.Constant refl (λ ds. refl) handle
expression_complete (computes (computed.Override handle)) = tagged_complete expression_kinds expression_with (row1 a_handle) (λ t. computes (computed.Override t)) (codes "Override") expression_kind.Override refl (λ ds. refl) handle
expression_complete (computes (computed.ZeroValue ty)) = tagged_complete expression_kinds expression_with (row1 a_handle) (λ t. computes (computed.ZeroValue t)) (codes "ZeroValue") expression_kind.ZeroValue refl (λ ds. refl) ty
expression_complete (compose ty components) = tagged_complete expression_kinds expression_with (row2 a_handle (a_list a_handle)) (λ t. compose t.0 t.1) (codes "Compose") expression_kind.Compose refl (λ ds. refl) (ty, components)
expression_complete (computes (computed.Access base index)) = tagged_complete expression_kinds expression_with (row2 a_handle a_handle) (λ t. computes (computed.Access t.0 t.1)) (codes "Access") expression_kind.Access refl (λ ds. refl) (base, index)
expression_complete (computes (computed.AccessIndex base index)) = tagged_complete expression_kinds expression_with (row2 a_handle a_u32) (λ t. computes (computed.AccessIndex t.0 t.1)) (codes "AccessIndex") expression_kind.AccessIndex refl (λ ds. refl) (base, index)
expression_complete (computes (computed.Splat size value)) = tagged_complete expression_kinds expression_with (row2 a_size a_handle) (λ t. computes (computed.Splat t.0 t.1)) (codes "Splat") expression_kind.Splat refl (λ ds. refl) (size, value)
expression_complete (computes (computed.Swizzle size vector pattern)) = tagged_complete expression_kinds expression_with (row3 a_size a_handle a_pattern) (λ t. computes (computed.Swizzle t.0 t.1 t.2)) (codes "Swizzle") expression_kind.Swizzle refl (λ ds. refl) (size, vector, pattern)
expression_complete (computes (computed.FunctionArgument index)) = tagged_complete expression_kinds expression_with (row1 a_u32) (λ t. computes (computed.FunctionArgument t)) (codes "FunctionArgument") expression_kind.FunctionArgument refl (λ ds. refl) index
expression_complete (computes (computed.GlobalVariable handle)) = tagged_complete expression_kinds expression_with (row1 a_handle) (λ t. computes (computed.GlobalVariable t)) (codes "GlobalVariable") expression_kind.GlobalVariable refl (λ ds. refl) handle
expression_complete (computes (computed.LocalVariable handle)) = tagged_complete expression_kinds expression_with (row1 a_handle) (λ t. computes (computed.LocalVariable t)) (codes "LocalVariable") expression_kind.LocalVariable refl (λ ds. refl) handle
expression_complete (computes (computed.Load pointer)) = tagged_complete expression_kinds expression_with (row1 a_handle) (λ t. computes (computed.Load t)) (codes "Load") expression_kind.Load refl (λ ds. refl) pointer
expression_complete (computes (computed.ImageSample image sampler gather coordinate array_index offset level depth_ref clamp_to_edge)) = tagged_complete expression_kinds expression_with (row9 a_handle a_handle (maybe (a_word letters)) a_handle (maybe a_handle) (maybe a_handle) a_level (maybe a_handle) a_bool) (λ t. computes (computed.ImageSample t.0 t.1 t.2 t.3 t.4 t.5 t.6 t.7 t.8)) (codes "ImageSample") expression_kind.ImageSample refl (λ ds. refl) (image, sampler, gather, coordinate, array_index, offset, level, depth_ref, clamp_to_edge)
expression_complete (computes (computed.ImageLoad image coordinate array_index sample level)) = tagged_complete expression_kinds expression_with (row5 a_handle a_handle (maybe a_handle) (maybe a_handle) (maybe a_handle)) (λ t. computes (computed.ImageLoad t.0 t.1 t.2 t.3 t.4)) (codes "ImageLoad") expression_kind.ImageLoad refl (λ ds. refl) (image, coordinate, array_index, sample, level)
expression_complete (computes (computed.ImageQuery image query)) = tagged_complete expression_kinds expression_with (row2 a_handle a_query) (λ t. computes (computed.ImageQuery t.0 t.1)) (codes "ImageQuery") expression_kind.ImageQuery refl (λ ds. refl) (image, query)
expression_complete (computes (computed.Unary op expr)) = tagged_complete expression_kinds expression_with (row2 (a_word unary_operators) a_handle) (λ t. computes (computed.Unary t.0 t.1)) (codes "Unary") expression_kind.Unary refl (λ ds. refl) (op, expr)
expression_complete (computes (computed.Binary op left right)) = tagged_complete expression_kinds expression_with (row3 (a_word binary_operators) a_handle a_handle) (λ t. computes (computed.Binary t.0 t.1 t.2)) (codes "Binary") expression_kind.Binary refl (λ ds. refl) (op, left, right)
expression_complete (computes (computed.Select condition accept reject)) = tagged_complete expression_kinds expression_with (row3 a_handle a_handle a_handle) (λ t. computes (computed.Select t.0 t.1 t.2)) (codes "Select") expression_kind.Select refl (λ ds. refl) (condition, accept, reject)
expression_complete (computes (computed.Derivative axis ctrl expr)) = tagged_complete expression_kinds expression_with (row3 (a_word derivative_axes) (a_word derivative_controls) a_handle) (λ t. computes (computed.Derivative t.0 t.1 t.2)) (codes "Derivative") expression_kind.Derivative refl (λ ds. refl) (axis, ctrl, expr)
expression_complete (computes (computed.Relational fun argument)) = tagged_complete expression_kinds expression_with (row2 (a_word relational_functions) a_handle) (λ t. computes (computed.Relational t.0 t.1)) (codes "Relational") expression_kind.Relational refl (λ ds. refl) (fun, argument)
expression_complete (computes (computed.Math fun arg arg1 arg2 arg3)) = tagged_complete expression_kinds expression_with (row5 (a_word math_functions) a_handle (maybe a_handle) (maybe a_handle) (maybe a_handle)) (λ t. computes (computed.Math t.0 t.1 t.2 t.3 t.4)) (codes "Math") expression_kind.Math refl (λ ds. refl) (fun, arg, arg1, arg2, arg3)
expression_complete (computes (computed.As expr kind convert)) = tagged_complete expression_kinds expression_with (row3 a_handle (a_word scalar_kinds) (maybe a_u8)) (λ t. computes (computed.As t.0 t.1 t.2)) (codes "As") expression_kind.As refl (λ ds. refl) (expr, kind, convert)
expression_complete (computes (computed.CallResult function)) = tagged_complete expression_kinds expression_with (row1 a_handle) (λ t. computes (computed.CallResult t)) (codes "CallResult") expression_kind.CallResult refl (λ ds. refl) function
expression_complete (computes (computed.AtomicResult ty comparison)) = tagged_complete expression_kinds expression_with (row2 a_handle a_bool) (λ t. computes (computed.AtomicResult t.0 t.1)) (codes "AtomicResult") expression_kind.AtomicResult refl (λ ds. refl) (ty, comparison)
expression_complete (computes (computed.WorkGroupUniformLoadResult ty)) = tagged_complete expression_kinds expression_with (row1 a_handle) (λ t. computes (computed.WorkGroupUniformLoadResult t)) (codes "WorkGroupUniformLoadResult") expression_kind.WorkGroupUniformLoadResult refl (λ ds. refl) ty
expression_complete (computes (computed.ArrayLength pointer)) = tagged_complete expression_kinds expression_with (row1 a_handle) (λ t. computes (computed.ArrayLength t)) (codes "ArrayLength") expression_kind.ArrayLength refl (λ ds. refl) pointer
expression_complete (computes (computed.RayQueryVertexPositions query committed)) = tagged_complete expression_kinds expression_with (row2 a_handle a_bool) (λ t. computes (computed.RayQueryVertexPositions t.0 t.1)) (codes "RayQueryVertexPositions") expression_kind.RayQueryVertexPositions refl (λ ds. refl) (query, committed)
expression_complete (computes computed.RayQueryProceedResult) = tagged_complete expression_kinds expression_with ends (λ t. computes computed.RayQueryProceedResult) (codes "RayQueryProceedResult") expression_kind.RayQueryProceedResult refl (λ ds. refl) tt
expression_complete (computes (computed.RayQueryGetIntersection query committed)) = tagged_complete expression_kinds expression_with (row2 a_handle a_bool) (λ t. computes (computed.RayQueryGetIntersection t.0 t.1)) (codes "RayQueryGetIntersection") expression_kind.RayQueryGetIntersection refl (λ ds. refl) (query, committed)
expression_complete (computes computed.SubgroupBallotResult) = tagged_complete expression_kinds expression_with ends (λ t. computes computed.SubgroupBallotResult) (codes "SubgroupBallotResult") expression_kind.SubgroupBallotResult refl (λ ds. refl) tt
expression_complete (computes (computed.SubgroupOperationResult ty)) = tagged_complete expression_kinds expression_with (row1 a_handle) (λ t. computes (computed.SubgroupOperationResult t)) (codes "SubgroupOperationResult") expression_kind.SubgroupOperationResult refl (λ ds. refl) ty
expression_complete (computes (computed.CooperativeLoad columns rows role block)) = tagged_complete expression_kinds expression_with (row6 a_side a_side (a_word cooperative_roles) a_handle a_handle a_bool) (λ t. computes (computed.CooperativeLoad t.0 t.1 t.2 (record { pointer = t.3; stride = t.4; row_major = t.5 }))) (codes "CooperativeLoad") expression_kind.CooperativeLoad refl (λ ds. refl) (columns, rows, role, block.pointer, block.stride, block.row_major)
expression_complete (computes (computed.CooperativeMultiplyAdd a b c)) = tagged_complete expression_kinds expression_with (row3 a_handle a_handle a_handle) (λ t. computes (computed.CooperativeMultiplyAdd t.0 t.1 t.2)) (codes "CooperativeMultiplyAdd") expression_kind.CooperativeMultiplyAdd refl (λ ds. refl) (a, b, c)
expression_complete (computes (computed.Compose ty components)) = λ d h le. absurd h

abbrev pub an_expression : FormOf PlainExpression
an_expression = by_kind expression_kinds expression_with AnExpression expression_sound expression_complete
