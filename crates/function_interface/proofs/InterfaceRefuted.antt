-- A function with a fault does not meet its rule.
use Rattle.std.proofs.Common.{inl, inr, ℕ, List, Bool, Option, Some, None, IfSome, IsSomeAnd, subst}
use Rattle.typing_errors.specs.declared.error.FunctionError.{FunctionError}
use Rattle.typing_errors.specs.declared.error.FunctionError.TheVariants as error
use Rattle.typing_errors.specs.declared.locals.LocalVariableError.{LocalVariableError}
use Rattle.typing_errors.specs.declared.locals.LocalVariableError.TheVariants.{InvalidType, InitializerType, NonConstOrOverrideInitializer}
use Rattle.function_interface.specs.Answered.{AllAnswered, IsUnansweredFault}
use Rattle.function_interface.specs.Arguments.{IsArgumentFault, IsArgumentsFault}
use Rattle.function_interface.specs.Interfaces.{IsInterfaceFault}
use Rattle.function_interface.specs.Items.{EachOK, IsFirstAt}
use Rattle.function_interface.specs.Laws.{FaultsRefute}
use Rattle.function_interface.specs.Locals.{IsLocalError, IsLocalsFault}
use Rattle.function_interface.specs.Results.{IsResultFault}
use Rattle.function_interface.specs.declared.arguments.ArgumentFault.{ArgumentFault}
use Rattle.function_interface.specs.declared.arguments.ArgumentFault.TheVariants as fault
use Rattle.ir_items.specs.judged.Plain.{PlainArgument, PlainLocal, PlainModule}
use Rattle.spec_statements.specs.judged.BlockContext.{BlockContext}
use Rattle.spec_statements.specs.judged.Interfaces.{ArgumentOK, InterfaceOK, IsGiven, LocalOK, ResultOK}

some_refuted : {A : Type 0} (Rule Wrong : A → Type 0) → ((x : A) → Wrong x → Rule x → ⊥) → (o : Option A) → IsSomeAnd o Wrong → IfSome o Rule → ⊥
some_refuted Rule Wrong refutes None wrong rule = wrong
some_refuted Rule Wrong refutes (Some x) wrong rule = refutes x wrong rule

pub first_refuted : {A : Type 0} (Rule Wrong : A → Type 0) → ((x : A) → Wrong x → Rule x → ⊥) → (items : List A) (index : ℕ) → IsFirstAt Rule Wrong items index → EachOK Rule items → ⊥
first_refuted Rule Wrong refutes items index first all = refutes first.item first.wrong (all index first.item first.at)

-- ---- variables

pub local_refuted : (c : BlockContext) (l : PlainLocal) (e : LocalVariableError) → IsLocalError c l e → LocalOK c l → ⊥
local_refuted c l (InvalidType ty) wrong ok = wrong.1 ok.constructible
local_refuted c l InitializerType wrong ok = some_refuted _ _ (λ init other begins. other begins.fits) l.init wrong ok.begins
local_refuted c l NonConstOrOverrideInitializer wrong ok = some_refuted _ _ (λ init late begins. late begins.known) l.init wrong ok.begins

pub locals_refuted : (c : BlockContext) (e : FunctionError) → IsLocalsFault c e → EachOK (LocalOK c) c.f.locals → ⊥
locals_refuted c (error.LocalVariable handle name source) wrong all = first_refuted _ _ (λ l told ok. local_refuted c l source told.1 ok) c.f.locals handle wrong all
locals_refuted c _ wrong all = wrong

-- ---- arguments

pub argument_refuted : (m : PlainModule) (entry : Bool) (a : PlainArgument) (e : ArgumentFault) → IsArgumentFault m entry a e → ArgumentOK m entry a → ⊥
argument_refuted m entry a (fault.Space space) wrong ok = wrong.1 (subst (λ o. IfSome o IsGiven) wrong.0 ok.space)
argument_refuted m entry a fault.Type wrong ok = wrong ok.argument
argument_refuted m entry a fault.Binding wrong ok = wrong.1 (ok.unbound wrong.0)

pub arguments_refuted : (c : BlockContext) (entry : Bool) (e : FunctionError) → IsArgumentsFault c entry e → EachOK (ArgumentOK c.m entry) c.f.arguments → ⊥
arguments_refuted c entry (error.InvalidArgumentPointerSpace index name space) wrong all =
    first_refuted _ _ (λ a told ok. argument_refuted c.m entry a (fault.Space space) told.1 ok) c.f.arguments index wrong all
arguments_refuted c entry (error.InvalidArgumentType index name) wrong all =
    first_refuted _ _ (λ a told ok. argument_refuted c.m entry a fault.Type told.1 ok) c.f.arguments index wrong all
arguments_refuted c entry (error.PipelineInputRegularFunction name) wrong all =
    first_refuted _ _ (λ a told ok. argument_refuted c.m entry a fault.Binding told.1 ok) c.f.arguments wrong.0 wrong.1 all
arguments_refuted c entry _ wrong all = wrong

-- ---- the result, and all together

pub result_refuted : (c : BlockContext) (entry : Bool) (e : FunctionError) → IsResultFault c entry e → IfSome c.f.result (ResultOK c.m entry) → ⊥
result_refuted c entry error.NonConstructibleReturnType wrong ok = some_refuted _ _ (λ r none has. none has.constructible) c.f.result wrong ok
result_refuted c entry error.PipelineOutputRegularFunction wrong ok = some_refuted _ _ (λ r bound has. bound.1 (has.unbound bound.0)) c.f.result wrong ok
result_refuted c entry _ wrong ok = wrong

interface_refuted : (c : BlockContext) (entry : Bool) (e : FunctionError) → IsInterfaceFault c entry e → InterfaceOK c entry → ⊥
interface_refuted c entry e (inl locals) ok = locals_refuted c e locals ok.locals
interface_refuted c entry e (inr (inl arguments)) ok = arguments_refuted c entry e arguments.wrong ok.arguments
interface_refuted c entry e (inr (inr answer)) ok = result_refuted c entry e answer.wrong ok.result

answered_refuted : (c : BlockContext) (e : FunctionError) (given : List Bool) → IsUnansweredFault c.f.expressions given e → AllAnswered c.f.expressions given → ⊥
answered_refuted c (error.UnvisitedExpression handle) given wrong all = wrong.unanswered (all handle wrong.stands)
answered_refuted c _ given wrong all = wrong

pub faults_refute_lem : FaultsRefute
faults_refute_lem c entry e = record {
  local = λ l error. local_refuted c l error;
  locals = locals_refuted c e;
  arguments = arguments_refuted c entry e;
  answer = result_refuted c entry e;
  interface = interface_refuted c entry e;
  answered = λ given. answered_refuted c e given;
}
