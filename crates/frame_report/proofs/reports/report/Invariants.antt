use Rattle.std.proofs.Common.{◌≡◌, ◌+◌, ◌++◌, string_bytes}
use Rattle.std.specs.Iterator.Adapters.{enumerate_count, enumerate_source}
use Rattle.text.specs.Lines.{lines_left}
use Rattle.frame_report.specs.Reports.{report_from, report_of}
use Rattle.frame_report.proofs.reports.report.Given as goal

abbrev pub invariant-loop-i : goal.invariant-loop-i
invariant-loop-i g l =
    string_bytes l.out ++ report_from (g.R.FrameReport.told l.way) (enumerate_count l.i-iterator + 1) (lines_left (enumerate_source l.i-iterator)) ≡ report_of (g.R.FrameReport.told l.way) l.text
