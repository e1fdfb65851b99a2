-- A refusal for one fault is one for any that it implies.
use Rattle.std.proofs.Common.{◌≡◌, [], subst, sym}
use Rattle.typing_errors.specs.declared.error.FunctionError.{FunctionError}
use Rattle.ir_types.specs.found.Faults.{error_of, spans_of}
use Rattle.ir_types.specs.declared.refusal.Refusal.{Refusal}
use Rattle.ir_types.specs.declared.refusal.Refusal.TheVariants as refusal
use Rattle.ir_types.specs.declared.with_span.WithSpan.{WithSpan}
use Rattle.ir_blocks.specs.judged.Places.{Place}
use Rattle.ir_places.proofs.TrailLaws.{placed, placed_then}
use Rattle.ir_places.specs.Paths.{IsPlaced, place_of}
use Rattle.ir_places.specs.declared.trail.Trail.{Trail}
use Rattle.function_interface.specs.Analysis.{IsRefusedAt, IsRefusedFor}

pub refused_as : (P Q : FunctionError → Type 0) → ((e : FunctionError) → P e → Q e) → (r : Refusal FunctionError) → IsRefusedFor P r → IsRefusedFor Q r
refused_as P Q widen (refusal.Memory e) h = tt
refused_as P Q widen (refusal.Fault e) h = (widen (error_of e) h.0, h.1)

-- ---- at a place

pub refused_at : (t : Trail) (P Q : FunctionError → Place → Type 0) → ((e : FunctionError) (p : Place) → P e p → Q e p) → (r : Refusal FunctionError) → IsRefusedAt t P r → IsRefusedAt t Q r
refused_at t P Q widen (refusal.Memory e) h = tt
refused_at t P Q widen (refusal.Fault e) h = (placed_then t (P (error_of e)) (Q (error_of e)) (widen (error_of e)) h.0, h.1)

-- a fault that speaks of no place
pub refused_anywhere : (t : Trail) (P : FunctionError → Type 0) (Q : FunctionError → Place → Type 0) → ((e : FunctionError) (p : Place) → P e → Q e p) → (r : Refusal FunctionError) → IsRefusedFor P r → IsRefusedAt t Q r
refused_anywhere t P Q widen (refusal.Memory e) h = tt
refused_anywhere t P Q widen (refusal.Fault e) h = (placed t (Q (error_of e)) (widen (error_of e) (place_of t) h.0), h.1)

-- and what stands at a place stands somewhere
pub refused_somewhere : (t : Trail) (P : FunctionError → Place → Type 0) (r : Refusal FunctionError) → IsRefusedAt t P r → IsRefusedFor (λ e. (p : Place) × P e p) r
refused_somewhere t P (refusal.Memory e) h = tt
refused_somewhere t P (refusal.Fault e) h = ((h.0.0, h.0.2), h.1)

-- an error that is told with no span
pub told_at : (t : Trail) (P : FunctionError → Place → Type 0) (told : WithSpan FunctionError) (e : FunctionError) → error_of told ≡ e → spans_of told ≡ [] → IsPlaced t (P e) → IsRefusedAt t P (refusal.Fault told)
told_at t P told e is none h = (placed_then t (P e) (P (error_of told)) (λ p x. subst (λ y. P y p) (sym is) x) h, none)
