-- What the television tells by the event is in flight.
use Rattle.std.proofs.Common.{List, [], sym, subst}
use Rattle.css_num.specs.declared.protocol.Kind.TheVariants as kind
use Rattle.css_tv.specs.Outcomes.{outcome_at}
use Rattle.css_tv.specs.Standing as tvs
use Rattle.css_tv.specs.declared.state.Addresses.{Addresses}
use Rattle.css_world.specs.Flights.{news_of}
use Rattle.css_world.proofs.Names.{TvOut, peer_of}
use Rattle.css_world.proofs.News.{told-news}
use Rattle.css_world.proofs.television.play.Goals as goal

pub returns-clause-played : goal.returns-clause-played
returns-clause-played c = λ events stands fresh.
    let old = c.args.tv.now.stage in
    let new = c.step.new.self.stage in
    let told : List TvOut = c.step.new.out.items in
    let done : tvs.IsAfterBy old new [] told (outcome_at c.args.event old) =
    rw c.new-told.ensures.items at c.in_ok-step.ensures.outcome in
    let fresh_here = subst (λ (a : Addresses). tvs.IsFresh c.args.event (tvs.calls_of a events).sessions)
    (sym c.requires.addresses) fresh in
    let after = c.in_ok-step.ensures.stands events stands fresh_here in
    record {
      stage = after;
      each = λ who before found.
          let taken = c.in_ok-tell.ensures.told who before found in (
            taken.0,
            taken.1,
            record {
              cii = record {
                news = news_of (peer_of who kind.Cii) told;
                told = told-news (peer_of who kind.Cii) c.args.event old new events told done stands after
                    c.requires.addresses;
                carried = taken.2.cii;
              };
              ts = record {
                news = news_of (peer_of who kind.Ts) told;
                told = told-news (peer_of who kind.Ts) c.args.event old new events told done stands after
                    c.requires.addresses;
                carried = taken.2.ts;
              };
            },
          );
    }
