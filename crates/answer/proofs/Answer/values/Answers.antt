-- `answer::Answer::values` meets its contract: case by case.
use Rattle.answer.proofs.Answer.values.Goals as goal

pub returns-in-Done : goal.returns-in-Done
returns-in-Done c = cc

pub returns-in-Short : goal.returns-in-Short
returns-in-Short c = cc

pub returns-in-Flags : goal.returns-in-Flags
returns-in-Flags c = cc

pub returns-in-NodeType : goal.returns-in-NodeType
returns-in-NodeType c = cc

pub returns-in-NotUtf8 : goal.returns-in-NotUtf8
returns-in-NotUtf8 c = cc

pub returns-in-InputTooLong : goal.returns-in-InputTooLong
returns-in-InputTooLong c = cc

pub returns-in-BadText : goal.returns-in-BadText
returns-in-BadText c = cc

pub returns-in-OutputTooLong : goal.returns-in-OutputTooLong
returns-in-OutputTooLong c = cc

pub returns-in-NoRoom : goal.returns-in-NoRoom
returns-in-NoRoom c = cc

pub returns-in-Unbuilt : goal.returns-in-Unbuilt
returns-in-Unbuilt c = cc

pub returns-in-NoSequenceNumber : goal.returns-in-NoSequenceNumber
returns-in-NoSequenceNumber c = cc

pub returns-in-ZeroLength : goal.returns-in-ZeroLength
returns-in-ZeroLength c = cc
