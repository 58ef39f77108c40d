-- What the tests' helpers know of a module whose functions workers call.
use Rattle.std.specs.Prelude.{◌≡◌, ◌<◌, ◌-◌, [], length}
use Rattle.brc_lang.specs.declared.module.Module.{Module}
use Rattle.brc_model.specs.Threads.{function_at}

-- The module's first function and its last one have no parameters.
pub record HasCallableEnds (m : Module) : Type 0 where
  pub some : 0 < length m.functions
  pub first : (function_at m.functions 0).parameters ≡ []
  pub last : (function_at m.functions (length m.functions - 1)).parameters ≡ []
