-- Views of the contexts of entry points.
use Rattle.std.specs.Prelude.{◌≡◌, length}
use Rattle.function_entries.specs.declared.context.EntryContext.{EntryContext}
use Rattle.ir_items.specs.judged.Plain.{PlainEntry, PlainModule}
use Rattle.ir_items.specs.found.View.{entry_view, module_view}
use Rattle.spec_interface.specs.judged.Contexts.{VaryingContext, context_of}
use Rattle.spec_interface.specs.declared.varyings.Direction.{Direction}
use Rattle.spec_interface.specs.declared.varyings.Direction.TheVariants.{Input}
use Rattle.module_type_checks.specs.Known.{AreInfos}
use Rattle.function_entries.specs.Interfaces.{AreInterfacesKnown}
use Rattle.function_entries.specs.declared.known.KnownInterfaces.{KnownInterfaces}
use Rattle.function_varyings.specs.Known.{AreKnown}
use Rattle.function_varyings.specs.declared.known.KnownTypes.{KnownTypes}

abbrev pub module_in : EntryContext → PlainModule
module_in c = module_view c.«module».now

abbrev pub entry_in : EntryContext → PlainEntry
entry_in c = entry_view c.entry.now

-- the context of varyings in this direction
abbrev pub varying_context : EntryContext → Direction → VaryingContext
varying_context c direction = context_of c.flags c.capabilities (module_in c) (entry_in c) direction

-- the `TypeInfo`s are those of all types of the module
pub record IsKnown (c : EntryContext) : Type 0 where
  pub told : AreInfos (module_in c).types c.infos.now
  pub many : length c.infos.now ≡ length (module_in c).types

-- the facts about types hold for those of the module, for each entry point and direction
abbrev pub AreKnownIn : EntryContext → KnownTypes → Type 0
AreKnownIn c known = AreKnown (varying_context c Input) known

-- the facts about interfaces hold for those of the module's entry points
abbrev pub AreSharedIn : EntryContext → KnownInterfaces → Type 0
AreSharedIn c known = AreInterfacesKnown c.flags c.capabilities (module_in c).types known
