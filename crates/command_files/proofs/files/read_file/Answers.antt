-- Answers to the goals of `read_file`: reads a file.
use Rattle.command_files.specs.Reads.{file_of}
use Rattle.command_files.proofs.Reading.{file_read, absent_stops, risen_stops, long_stops}
use Rattle.command_files.proofs.files.read_file.Goals as goal

pub returns-in-Ok-clause-file : goal.returns-in-Ok-clause-file
returns-in-Ok-clause-file g c = file_read _ c.args.file.name.now _ c.in-Ok.bytes c.in-Ok.ensures.bytes c.in-Ok.ensures.within

pub returns-in-Err-NotHeld-clause-file : goal.returns-in-Err-NotHeld-clause-file
returns-in-Err-NotHeld-clause-file g c = absent_stops _ (file_of c.args.file) _ _ _ (rw c.in-Err-NotHeld.field-0-is at c.in-Err-NotHeld.ensures.not_held) c.unread_file.ensures

pub returns-in-Err-Failed-clause-file : goal.returns-in-Err-Failed-clause-file
returns-in-Err-Failed-clause-file g c = risen_stops _ (file_of c.args.file) _ _ _ (rw c.in-Err-Failed.field-0-is at c.in-Err-Failed.ensures.failed) c.unread_file-in-Err-Failed.ensures

pub returns-in-Err-TooLong-clause-file : goal.returns-in-Err-TooLong-clause-file
returns-in-Err-TooLong-clause-file g c = long_stops _ (file_of c.args.file) _ _ _ (rw c.in-Err-TooLong.field-0-is at c.in-Err-TooLong.ensures.too_long) c.passed_limit.ensures
