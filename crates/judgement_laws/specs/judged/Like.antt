-- Modules that differ only in such returns, in functions and entry points without results.
use Rattle.std.specs.Prelude.{◌≡◌, ℕ, List, Some, None, length, slice_get}
use Rattle.ir_items.specs.judged.Plain.{PlainFunction, PlainEntry, PlainModule}
use Rattle.judgement_laws.specs.found.Alike.{Alike}

-- Two lists have the same length, and R holds of their items at each index.
pub record Matched {A : Type 0} (R : A → A → Type 0) (xs ys : List A) : Type 0 where
  pub many : length xs ≡ length ys
  pub there : (i : ℕ) (x : A) → slice_get xs i ≡ Some x → (y : A) × (slice_get ys i ≡ Some y) × R x y
  pub back : (i : ℕ) (y : A) → slice_get ys i ≡ Some y → (x : A) × (slice_get xs i ≡ Some x) × R x y

-- Neither has a result, and g equals f except for its body, which is alike.
pub record LikeFunction (f g : PlainFunction) : Type 0 where
  pub no_result : f.result ≡ None
  pub body : Alike f.body g.body
  pub rest : g ≡ record f { body = g.body }

-- the entry point y equals x except for its function, which is like that of x
pub record LikeEntry (x y : PlainEntry) : Type 0 where
  pub function : LikeFunction x.function y.function
  pub rest : y ≡ record x { function = y.function }

-- the module n equals m except for its functions and entry points, each of which is like that of m at its index
pub record LikeModule (m n : PlainModule) : Type 0 where
  pub functions : Matched LikeFunction m.functions n.functions
  pub entries : Matched LikeEntry m.entries n.entries
  pub rest : n ≡ record m { functions = n.functions; entries = n.entries }

-- no function and no entry point of the module has a result
pub record HasNoResult (m : PlainModule) : Type 0 where
  pub functions : (i : ℕ) (f : PlainFunction) → slice_get m.functions i ≡ Some f → f.result ≡ None
  pub entries : (k : ℕ) (x : PlainEntry) → slice_get m.entries k ≡ Some x → x.function.result ≡ None
