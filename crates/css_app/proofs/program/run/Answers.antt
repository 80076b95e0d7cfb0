-- What a run promises of each command, from what it does for all words.
use Rattle.css_app.proofs.program.run.Goals as goal

pub returns : goal.returns
returns g c =
    let ran = c.run_asked.ensures in
    record {
      usage = ran.usage;
      refused = λ is. rw is at ran.does;
      same_source = ran.same_source;
      same_sink = ran.same_sink;
      same_outside = ran.same_outside;
      same_spawner = ran.same_spawner;
      same_followers = ran.same_followers;
      replay = λ is. rw is at ran.does;
      agree = λ is. rw is at ran.does;
      pairs = λ is. rw is at ran.does;
      audit = λ is. rw is at ran.does;
      migrate = λ is. rw is at ran.does;
      companion = λ asked is plain. (rw is at ran.does).0 plain;
      record_companion = λ asked is recorded. (rw is at ran.does).1 recorded;
      tv = λ asked is. rw is at ran.does;
      pair = λ asked is. rw is at ran.does;
      relay = λ asked is. rw is at ran.does;
      watch = λ asked is. rw is at ran.does;
      generate = λ asked is. rw is at ran.does;
      survey = λ asked is. rw is at ran.does;
      counted_reads = ran.counted.reads;
      counted_writes = ran.counted.writes;
      counted_calls = ran.counted.calls;
      counted_dials = ran.counted.dials;
      counted_spawns = ran.counted.spawns;
    }
