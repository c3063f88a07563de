use Rattle.kcr_desk.proofs.answer.answer_get.Goals as goal

pub returns-in-Question : goal.returns-in-Question
returns-in-Question g c = rw c.in-Question.is c.answer_question.ensures

pub returns-in-Script : goal.returns-in-Script
returns-in-Script g c = rw c.in-Script.is c.answer_script.ensures

pub returns-in-Attendance : goal.returns-in-Attendance
returns-in-Attendance g c = rw c.in-Attendance.is c.answer_attendance.ensures

pub returns-in-Custody : goal.returns-in-Custody
returns-in-Custody g c = rw c.in-Custody.is c.answer_custody.ensures

pub returns-in-Commands : goal.returns-in-Commands
returns-in-Commands g c = rw c.in-Commands.is c.answer_commands.ensures
