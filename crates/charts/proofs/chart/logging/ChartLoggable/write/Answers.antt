-- The line of a step that fits reads back as that step, by the law.
use Rattle.lines.proofs.Logs.{state_line}
use Rattle.charts.specs.Numbered.{chart_numbered}
use Rattle.charts.proofs.chart.logging.ChartLoggable.write.Goals as goal

pub returns : goal.returns
returns c =
    let x = c.args.self.now in
    let w = c.write_step.ensures in
    record {
      answer = w.answer;
      after = w.after;
      back = state_line _ _ _ (chart_numbered x.entries x.valid.few_steps) c.args.state.now c.args.out.now _ _ w.answer w.after;
    }
