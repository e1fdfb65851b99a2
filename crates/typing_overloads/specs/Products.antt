-- Products of shapes and scalars as lists of rules, and the type that each rule requires at an argument index.
use Rattle.std.specs.Prelude.{List, [], ◌∷◌, Bool, true, not, map}
use Rattle.ir_kinds.specs.declared.scalars.Scalar.{Scalar}
use Rattle.typing_rules.specs.declared.patterns.Pattern.{Pattern}
use Rattle.typing_rules.specs.declared.patterns.Pattern.TheVariants as pattern
use Rattle.typing_rules.specs.declared.rules.ConstructorSize.{ConstructorSize}
use Rattle.typing_rules.specs.declared.rules.ConstructorSize.TheVariants as size
use Rattle.typing_rules.specs.declared.rules.Rule.{Rule}
use Rattle.typing_rules.specs.declared.rules.ValueType.{ValueType}
use Rattle.typing_rules.specs.judged.Ranks.{is_abstract_kind}
use Rattle.typing_rules.specs.judged.MathTable.{i32, u32, vector_of_columns, vector_of_rows, math_rule, rules_over}
use Rattle.typing_rules.specs.judged.Types.{value_type}
use Rattle.typing_rules.specs.found.Members.{scalars_in, sizes_in}
use Rattle.typing_overloads.specs.declared.required.Required.{Required}
use Rattle.typing_overloads.specs.declared.required.RequiredScalar.{RequiredScalar}
use Rattle.typing_overloads.specs.declared.required.RequiredScalar.TheVariants as scalars
use Rattle.typing_overloads.specs.declared.required.RequiredSize.{RequiredSize}
use Rattle.typing_overloads.specs.declared.required.RequiredSize.TheVariants as sizes
use Rattle.typing_overloads.specs.declared.product.Product.{Product}

-- ---- required types

-- the shape, given the rule's shape
abbrev pub required_size : RequiredSize → ConstructorSize → ConstructorSize
required_size sizes.Same n = n
required_size sizes.Scalar n = size.Scalar
required_size sizes.Column n = vector_of_columns n
required_size sizes.Row n = vector_of_rows n

-- the scalar, given the rule's scalar
abbrev pub required_scalar : RequiredScalar → Scalar → Scalar
required_scalar scalars.Same s = s
required_scalar scalars.I32 s = i32
required_scalar scalars.U32 s = u32

abbrev pub required_type : ConstructorSize → Scalar → Required → ValueType
required_type n s a = value_type (required_size a.size n) (required_scalar a.scalar s)

abbrev pub own : Required
own = record { size = sizes.Same; scalar = scalars.Same }

abbrev pub word : Required
word = record { size = sizes.Scalar; scalar = scalars.U32 }

-- the required types of a pattern, in order
abbrev pub required_by : Pattern → List Required
required_by pattern.Same = own ∷ []
required_by pattern.SameTwo = own ∷ own ∷ []
required_by pattern.SameThree = own ∷ own ∷ own ∷ []
required_by pattern.ToScalar = own ∷ []
required_by pattern.TwoToScalar = own ∷ own ∷ []
required_by pattern.WithScalar = own ∷ own ∷ record { size = sizes.Scalar; scalar = scalars.Same } ∷ []
required_by pattern.WithExponent = own ∷ record { size = sizes.Same; scalar = scalars.I32 } ∷ []
required_by pattern.WithRange = own ∷ word ∷ word ∷ []
required_by pattern.TwoWithRange = own ∷ own ∷ word ∷ word ∷ []
required_by pattern.ToFraction = own ∷ []
required_by pattern.ToExponent = own ∷ []
required_by pattern.ToOuter = record { size = sizes.Column; scalar = scalars.Same } ∷ record { size = sizes.Row; scalar = scalars.Same } ∷ []
required_by pattern.ToTransposed = own ∷ []
required_by pattern.ToWord = own ∷ []
required_by pattern.FromWord = word ∷ []
required_by pattern.FromTwoWords = word ∷ word ∷ []

-- whether the pattern's rule for the scalar has no abstract argument
abbrev pub all_concrete : Pattern → Scalar → Bool
all_concrete pattern.FromWord s = true
all_concrete pattern.FromTwoWords s = true
all_concrete p s = not (is_abstract_kind s.kind)

-- ---- the rules of a product

-- one shape with each of the scalars
abbrev pub row : Pattern → List Scalar → ConstructorSize → List Rule
row p ss n = map (math_rule p n) ss

-- each of the shapes with each of the scalars: ordered by shape, then by scalar
abbrev pub rules_of : Product → List Rule
rules_of p = rules_over p.pattern (scalars_in p.scalars.0) (sizes_in p.sizes.0)
