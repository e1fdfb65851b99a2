-- Type flags that an address space requires, flag by flag.
use Rattle.std.proofs.Common.{◌≡◌, ℕ, ◌==◌, IsTrue, Option, Some, None, IfSome, bit_and, refl, sym, subst, ◌∙◌}
use Rattle.std.proofs.lemmas.Bool.Decides.{Decides-eqb}
use Rattle.std.specs.Int.Bits.{and_zero_r}
use Rattle.ir_flags.proofs.SetLaws.{within-over, union-within}
use Rattle.ir_flags.specs.Sets.{Has}
use Rattle.ir_flags.specs.declared.settings.Capabilities.{Capabilities}
use Rattle.ir_kinds.specs.declared.spaces.AddressSpace.{AddressSpace}
use Rattle.ir_kinds.specs.declared.spaces.AddressSpace.TheVariants.{Function, Private, WorkGroup, Uniform, Storage, Handle, Immediate, TaskPayload, RayPayload, IncomingRayPayload}
use Rattle.module_globals.specs.Faults.{required_bits}
use Rattle.typing_layout.specs.judged.Flags.{TypeFlag, bit, among, Data, Sized, Copy, IoShareable, HostShareable, CreationResolved, Argument, Constructible}
use Rattle.spec_interface.specs.judged.Spaces.{space_row}
use Rattle.spec_interface.specs.found.Variables.{HasAll}
use Rattle.typing_layout.specs.judged.Tree.{Tree}
use Rattle.typing_layout.specs.found.Infos.{AreFlags}
use Rattle.typing_layout.specs.declared.type_flags.TypeFlags.{TypeFlags}

by_flags : (P : TypeFlag → Type 0) → P Data → P Sized → P Copy → P IoShareable → P HostShareable → P CreationResolved → P Argument → P Constructible → (f : TypeFlag) → P f
by_flags P a b c d e g h i Data = a
by_flags P a b c d e g h i Sized = b
by_flags P a b c d e g h i Copy = c
by_flags P a b c d e g h i IoShareable = d
by_flags P a b c d e g h i HostShareable = e
by_flags P a b c d e g h i CreationResolved = g
by_flags P a b c d e g h i Argument = h
by_flags P a b c d e g h i Constructible = i

-- a flag is in the bits if it is in the list
abbrev Agrees : AddressSpace → TypeFlag → Type 0
Agrees s f = (bit_and (required_bits s) (bit f) == bit f) ≡ among (space_row s).flags f

agrees : (s : AddressSpace) (f : TypeFlag) → Agrees s f
agrees Function = by_flags (Agrees Function) refl refl refl refl refl refl refl refl
agrees Private = by_flags (Agrees Private) refl refl refl refl refl refl refl refl
agrees WorkGroup = by_flags (Agrees WorkGroup) refl refl refl refl refl refl refl refl
agrees Uniform = by_flags (Agrees Uniform) refl refl refl refl refl refl refl refl
agrees (Storage access) = by_flags (Agrees (Storage access)) refl refl refl refl refl refl refl refl
agrees Handle = by_flags (Agrees Handle) refl refl refl refl refl refl refl refl
agrees Immediate = by_flags (Agrees Immediate) refl refl refl refl refl refl refl refl
agrees TaskPayload = by_flags (Agrees TaskPayload) refl refl refl refl refl refl refl refl
agrees RayPayload = by_flags (Agrees RayPayload) refl refl refl refl refl refl refl refl
agrees IncomingRayPayload = by_flags (Agrees IncomingRayPayload) refl refl refl refl refl refl refl refl

has_asked : (s : AddressSpace) (f : TypeFlag) → IsTrue (among (space_row s).flags f) → Has (required_bits s) (bit f)
has_asked s f h = (Decides-eqb (bit_and (required_bits s) (bit f)) (bit f)).0 (subst IsTrue (sym (agrees s f)) h)

-- a set with all these flags has all required flags
pub all_asked : (s : AddressSpace) (set : ℕ) (asked : ℕ) (t : Tree) (flags : TypeFlags) → asked ≡ required_bits s → set ≡ flags.0 → AreFlags flags t → Has set asked → HasAll (space_row s).flags t
all_asked s set asked t flags is same are has f h =
    (are f).0 (subst (λ k. Has k (bit f)) same (within-over (bit f) (required_bits s) set (has_asked s f h) (subst (Has set) is has)))

-- the union of the required flags
together : (s : AddressSpace) (set : ℕ) → ((f : TypeFlag) → IsTrue (among (space_row s).flags f) → Has set (bit f)) → Has set (required_bits s)
together Function set h = and_zero_r set
together Handle set h = and_zero_r set
together Private set h = union-within 32 128 set (h CreationResolved refl) (h Constructible refl)
together WorkGroup set h = union-within 1 2 set (h Data refl) (h Sized refl)
together TaskPayload set h = union-within 1 2 set (h Data refl) (h Sized refl)
together RayPayload set h = union-within 1 2 set (h Data refl) (h Sized refl)
together IncomingRayPayload set h = union-within 1 2 set (h Data refl) (h Sized refl)
together (Storage access) set h = union-within 1 48 set (h Data refl) (union-within 16 32 set (h HostShareable refl) (h CreationResolved refl))
together Immediate set h = union-within 3 20 set (union-within 1 2 set (h Data refl) (h Sized refl)) (union-within 4 16 set (h Copy refl) (h HostShareable refl))
together Uniform set h =
    union-within 23 32 set (union-within 3 20 set (union-within 1 2 set (h Data refl) (h Sized refl)) (union-within 4 16 set (h Copy refl) (h HostShareable refl))) (h CreationResolved refl)

pub none_missing : (s : AddressSpace) (set asked : ℕ) (t : Tree) (flags : TypeFlags) → asked ≡ required_bits s → set ≡ flags.0 → AreFlags flags t → HasAll (space_row s).flags t → Has set asked
none_missing s set asked t flags is same are all =
    subst (Has set) (sym is) (together s set (λ f h. subst (λ k. Has k (bit f)) (sym same) ((are f).1 (all f h))))

-- a required capability is enabled
pub capability_met : (capabilities : Capabilities) (found needed : Option Capabilities) (c : Capabilities) → found ≡ needed → found ≡ Some c → Has capabilities.0 c.0 → IfSome needed (λ x. Has capabilities.0 x.0)
capability_met capabilities found needed c is some has = subst (λ o. IfSome o (λ (x : Capabilities). Has capabilities.0 x.0)) (sym some ∙ is) has

pub none_needed : (capabilities : Capabilities) (found needed : Option Capabilities) → found ≡ needed → found ≡ None → IfSome needed (λ (x : Capabilities). Has capabilities.0 x.0)
none_needed capabilities found needed is none = subst (λ o. IfSome o (λ (x : Capabilities). Has capabilities.0 x.0)) (sym none ∙ is) tt
