-- The job of each command but `specialise`, from the words behind its name.
use Rattle.std.specs.Prelude.{ℕ, if◌then◌else◌, List, [], codes, bytes_eq, get_or, Result, Ok, Err}
use Rattle.cb_words.specs.declared.fault.BadWords.{BadWords}
use Rattle.cb_words.specs.declared.fault.BadWords.TheVariants.{UnknownCommand}
use Rattle.cb_words.specs.declared.option_name.OptionName.TheVariants.{Kind, Root, Workers, Measurements, Port, Connections}
use Rattle.cb_words.specs.declared.job.Job.{Job}
use Rattle.cb_words.specs.declared.job.Job.TheVariants.{Report, Stdio, Serve, Generate}
use Rattle.cb_words.specs.declared.job.ReportJob.{ReportJob}
use Rattle.cb_words.specs.declared.job.StdioJob.{StdioJob}
use Rattle.cb_words.specs.declared.job.ServeJob.{ServeJob}
use Rattle.cb_words.specs.declared.job.GenerateJob.{GenerateJob}
use Rattle.cb_words.specs.Faults.{and_then}
use Rattle.cb_words.specs.OptionNames.{report_options, stdio_options, serve_options, generate_options}
use Rattle.cb_words.specs.Parts.{Part, cut_words}
use Rattle.cb_words.specs.Values.{value_in, plain_words, kind_or_summary, folder_or_here, path_in, path_or_none, number_in, needed_number, workers_or_one}

-- the path of an analysis: the one word of no option names it (own)
abbrev pub analysis_of : List Part → Result (List ℕ) BadWords
analysis_of parts = and_then (plain_words 1 parts) (λ words. path_in (get_or words 0 []))

-- report [--kind KIND] [--root DIR] [--workers N] [--measurements PATH] ANALYSIS (own)
abbrev pub report_of : List ℕ → List Part → Result ReportJob BadWords
report_of here parts =
    and_then (kind_or_summary (value_in Kind parts)) (λ kind.
    and_then (folder_or_here here (value_in Root parts)) (λ root.
    and_then (workers_or_one (value_in Workers parts)) (λ workers.
    and_then (path_or_none (value_in Measurements parts)) (λ measurements.
    and_then (analysis_of parts) (λ analysis.
    Ok (record { kind = kind; root = root; workers = workers; measurements = measurements; analysis = analysis }))))))

-- stdio [--workers N] (own)
abbrev pub stdio_of : List Part → Result StdioJob BadWords
stdio_of parts =
    and_then (workers_or_one (value_in Workers parts)) (λ workers.
    and_then (plain_words 0 parts) (λ words.
    Ok (record { workers = workers })))

-- serve --port P --connections C [--workers N] (own)
abbrev pub serve_of : List Part → Result ServeJob BadWords
serve_of parts =
    and_then (needed_number 1 65535 (value_in Port parts)) (λ port.
    and_then (needed_number 1 1000000 (value_in Connections parts)) (λ connections.
    and_then (workers_or_one (value_in Workers parts)) (λ workers.
    and_then (plain_words 0 parts) (λ words.
    Ok (record { port = port; connections = connections; workers = workers })))))

-- generate SEED SIZE (own)
abbrev pub generate_of : List Part → Result GenerateJob BadWords
generate_of parts =
    and_then (plain_words 2 parts) (λ words.
    and_then (number_in 0 4294967295 (get_or words 0 [])) (λ seed.
    and_then (number_in 1 200 (get_or words 1 [])) (λ size.
    Ok (record { seed = seed; size = size }))))

-- the job of the words behind `report` (own)
abbrev pub report_job : List ℕ → List (List ℕ) → Result Job BadWords
report_job here words = and_then (and_then (cut_words report_options words) (report_of here)) (λ job. Ok (Report job))

-- the job of the words behind `stdio` (own)
abbrev pub stdio_job : List (List ℕ) → Result Job BadWords
stdio_job words = and_then (and_then (cut_words stdio_options words) stdio_of) (λ job. Ok (Stdio job))

-- the job of the words behind `serve` (own)
abbrev pub serve_job : List (List ℕ) → Result Job BadWords
serve_job words = and_then (and_then (cut_words serve_options words) serve_of) (λ job. Ok (Serve job))

-- the job of the words behind `generate` (own)
abbrev pub generate_job : List (List ℕ) → Result Job BadWords
generate_job words = and_then (and_then (cut_words generate_options words) generate_of) (λ job. Ok (Generate job))

-- the job of a command and the words behind it (own)
abbrev pub command_job : List ℕ → List ℕ → List (List ℕ) → Result Job BadWords
command_job here command words =
    if bytes_eq command (codes "report") then report_job here words
    else (if bytes_eq command (codes "stdio") then stdio_job words
    else (if bytes_eq command (codes "serve") then serve_job words
    else (if bytes_eq command (codes "generate") then generate_job words
    else Err UnknownCommand)))
