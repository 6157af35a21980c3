use Rattle.hv_parse_query.proofs.queries.+query.Given as goal

abbrev pub decreases-query : goal.decreases-query
decreases-query l = l.depth
