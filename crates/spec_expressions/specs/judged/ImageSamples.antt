-- Image samples and gathers.
use Rattle.std.specs.Prelude.{ℕ, Option, Some, None, Result, Ok, Err}
use Rattle.ir_kinds.specs.declared.images.ImageClass.{ImageClass}
use Rattle.ir_kinds.specs.declared.images.ImageClass.TheVariants.{Sampled, Depth, External, Storage}
use Rattle.ir_kinds.specs.declared.scalars.ScalarKind.{ScalarKind}
use Rattle.ir_kinds.specs.declared.scalars.Scalar.{Scalar}
use Rattle.ir_kinds.specs.declared.scalars.SwizzleComponent.{SwizzleComponent}
use Rattle.ir_kinds.specs.declared.scalars.VectorSize.TheVariants.{Quad}
use Rattle.ir_kinds.specs.judged.Scalars.{floating}
use Rattle.typing_layout.specs.TypingForms.{Form}
use Rattle.typing_layout.specs.TypingForms.form as form
use Rattle.spec_expressions.specs.declared.faults.TypingFault.{TypingFault}
use Rattle.spec_expressions.specs.declared.faults.TypingFault.TheVariants.{InvalidImage}

-- a texel of this scalar kind has 32-bit components
abbrev pub texel_scalar : ScalarKind → Scalar
texel_scalar kind = record { kind = kind; width = 4 }

-- a vector of four components
abbrev pub texel : Scalar → Form
texel s = form.Vector Quad s

-- a depth, or a vector of four of them if it is a gather
abbrev pub depth_sample : Option SwizzleComponent → Form
depth_sample o = elim o [ None ↦ form.Scalar (floating 4) | Some component ↦ texel (floating 4) ]

-- image is the image's expression; storage images can't be sampled
abbrev pub sample_of : (image : ℕ) → Option SwizzleComponent → ImageClass → Result Form TypingFault
sample_of image gather (Sampled kind multi) = Ok (texel (texel_scalar kind))
sample_of image gather (Depth multi) = Ok (depth_sample gather)
sample_of image gather External = Ok (texel (floating 4))
sample_of image gather (Storage format access) = Err (InvalidImage image)

abbrev pub image_sample_type : (image : ℕ) → Option SwizzleComponent → (of : Form) → Result Form TypingFault
image_sample_type image gather of = elim of [ form.Image dim arrayed class ↦ sample_of image gather class | _ ↦ Err (InvalidImage image) ]
