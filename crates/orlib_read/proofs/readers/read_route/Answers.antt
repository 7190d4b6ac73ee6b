use Rattle.orlib_read.specs.Kinds.{first_line}
use Rattle.orlib_read.proofs.Routes.{found, only, first}
use Rattle.orlib_read.proofs.readers.read_route.Goals as goal

pub returns-clause-found : goal.returns-clause-found
returns-clause-found c = found (first_line c.args.line.now) c.route_of.result c.route_of.ensures

pub returns-clause-only : goal.returns-clause-only
returns-clause-only c = only (first_line c.args.line.now) c.route_of.result c.route_of.ensures

pub returns-clause-fault : goal.returns-clause-fault
returns-clause-fault c = first (first_line c.args.line.now) c.route_of.result c.route_of.ensures
