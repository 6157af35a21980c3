use Rattle.hv_rowfile.proofs.Books.{file_only}
use Rattle.hv_rowfile.proofs.Damage.{damage_named}
use Rattle.hv_rowfile.proofs.reading.files.decode.Goals as goal

pub returns-clause-only : goal.returns-clause-only
returns-clause-only c = file_only c.args.bytes.now c.read_file.result c.read_file.ensures.found c.read_file.ensures.bad

pub returns-clause-named : goal.returns-clause-named
returns-clause-named c = damage_named c.args.bytes.now c.read_file.result c.read_file.ensures.found c.read_file.ensures.bad
