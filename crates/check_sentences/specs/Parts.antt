-- The path in a document of an error that is not in a body.
use Rattle.std.specs.Prelude.{◌≡◌, ℕ, List, [], ◌∷◌, ◌++◌, Option, Some, None, option_to_list}
use Rattle.typing_errors.specs.declared.error.FunctionError.{FunctionError}
use Rattle.typing_errors.specs.declared.error.FunctionError.TheVariants as f
use Rattle.function_errors.specs.ModuleSteps.{ModuleError}
use Rattle.function_errors.specs.ModuleSteps.step as step
use Rattle.module_globals.specs.declared.error.GlobalVariableError.{GlobalVariableError}
use Rattle.module_globals.specs.declared.error.GlobalVariableError.TheVariants as variable
use Rattle.function_entry_checks.specs.declared.error.EntryPointError.{EntryPointError}
use Rattle.function_entry_checks.specs.declared.error.EntryPointError.TheVariants as entry
use Rattle.function_errors.specs.declared.error.ValidationError.{ValidationError}
use Rattle.function_errors.specs.declared.error.ValidationError.TheVariants as refused
use Rattle.check_sentences.specs.declared.parts.Steps.{Steps}

abbrev pub steps_in : Steps → List ℕ
steps_in s = option_to_list s.first ++ option_to_list s.second

-- from a type to a member of it
abbrev pub member_steps : (member : Option ℕ) → List ℕ
member_steps o = elim o [ Some member ↦ 1 ∷ 1 ∷ member ∷ [] | None ↦ [] ]

-- The part of a function that its error concerns: the expression, the variable, the argument, the result or the body that the error
-- names; for an argument with a binding any such, and for an error that names none of these the function.
abbrev pub IsInner : FunctionError → (path : List ℕ) → Type 0
IsInner (f.Expression handle source) path = path ≡ 4 ∷ handle ∷ []
IsInner (f.UnvisitedExpression handle) path = path ≡ 4 ∷ handle ∷ []
IsInner (f.NonUniformControlFlow needs handle disruptor) path = path ≡ 4 ∷ handle ∷ []
IsInner (f.LocalVariable handle name source) path = path ≡ 3 ∷ handle ∷ []
IsInner (f.InvalidArgumentType index name) path = path ≡ 1 ∷ index ∷ []
IsInner (f.InvalidArgumentPointerSpace index name space) path = path ≡ 1 ∷ index ∷ []
IsInner (f.PipelineInputRegularFunction name) path = (argument : ℕ) × (path ≡ 1 ∷ argument ∷ [])
IsInner f.NonConstructibleReturnType path = path ≡ 2 ∷ []
IsInner f.PipelineOutputRegularFunction path = path ≡ 2 ∷ []
IsInner (f.InvalidReturnType expression declared) path = path ≡ 5 ∷ []
IsInner _ path = path ≡ []

-- that of a step up to overrides; that of an invalid handle is searched for
abbrev pub IsModulePath : ModuleError → (path : List ℕ) → Type 0
IsModulePath (step.InvalidHandle e) path = Unit {0}
IsModulePath (step.Layouter e) path = path ≡ 5 ∷ e.ty ∷ []
IsModulePath (step.Typing e) path = (member : Option ℕ) × (path ≡ 5 ∷ e.ty ∷ member_steps member)
IsModulePath (step.ConstExpression e) path = path ≡ 10 ∷ e.expression ∷ []
IsModulePath (step.Constant e) path = path ≡ 8 ∷ e.constant ∷ []
IsModulePath (step.Override e) path = path ≡ 9 ∷ e.id ∷ []

-- that of a global variable, or its type, if that is not allowed in the address space
abbrev pub IsVariablePath : (global : ℕ) → GlobalVariableError → (path : List ℕ) → Type 0
IsVariablePath global (variable.Alignment space type e) path = (member : Option ℕ) × (path ≡ 5 ∷ type ∷ member_steps member)
IsVariablePath global _ path = path ≡ 11 ∷ global ∷ []

-- that of an entry point: in its function, or the variable that the error names; a part of its interface is searched for
abbrev pub IsEntryPath : (index : ℕ) → EntryPointError → (path : List ℕ) → Type 0
IsEntryPath index (entry.Function e) path = (inner : List ℕ) × (path ≡ 13 ∷ index ∷ 6 ∷ inner) × IsInner e inner
IsEntryPath index (entry.InvalidGlobalUsage global uses) path = path ≡ 11 ∷ global ∷ []
IsEntryPath index (entry.BindingCollision global) path = path ≡ 11 ∷ global ∷ []
IsEntryPath index _ path = Unit {0}

abbrev pub IsPartPath : ValidationError → (path : List ℕ) → Type 0
IsPartPath (refused.Module e) path = IsModulePath e path
IsPartPath (refused.GlobalVariable e) path = IsVariablePath e.global e.error path
IsPartPath (refused.Function e) path = (inner : List ℕ) × (path ≡ 12 ∷ e.function ∷ inner) × IsInner e.error inner
IsPartPath (refused.EntryPoint e) path = IsEntryPath e.index e.error path
