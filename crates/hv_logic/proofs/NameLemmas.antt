-- The names of a source that is a table.
use Rattle.std.proofs.Common.{◌≡◌, ℕ, List, [], ◌∷◌, ◌∙◌}
use Rattle.hv_locks.specs.declared.table.Lock.{Lock}
use Rattle.hv_ast.specs.declared.query.Source.{Source}
use Rattle.hv_ast.specs.declared.query.Source.TheFolds.{fold_out-Source, map-Source}
use Rattle.hv_ast.specs.declared.query.Source.TheVariants as source
use Rattle.hv_ast.specs.declared.query.Source.TheViews.{out-Source}
use Rattle.hv_logic.specs.Names.{layer_names, source_names}

pub source_names-out : (s : Source) → source_names s ≡ layer_names (map-Source Source (List Lock) source_names (out-Source s))
unfolding source_names
source_names-out s = fold_out-Source (List Lock) layer_names s
