use Rattle.std.proofs.Common.{ltb, rules}
use Rattle.std.proofs.lemmas.List.Sorted.{IsPartitionPoint-from_clause, IsPartitionedBy-ltb}
use Rattle.css_sessions.specs.declared.session.Session.{Session}
use Rattle.css_sessions.proofs.Places.{rises, place-point}
use Rattle.css_sessions.proofs.news.place.Goals as goal

pub returns-clause-value : goal.returns-clause-value
returns-clause-value c =
    let parted = IsPartitionedBy-ltb (λ (s : Session). s.peer) _ c.args.peer (rises 0 _ c.requires) in
    place-point c.args.peer _ _ c.partition_point.ensures.bound
    (IsPartitionPoint-from_clause (λ (s : Session). ltb s.peer c.args.peer) _ _ c.partition_point.ensures.partitioned
    parted (λ a r q k. search rules))
